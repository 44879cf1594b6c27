-- The number of each refusal (docs/REFUSALS.md), and an answer unless one is met.
use Rattle.std.specs.Prelude.{ℕ, ◌-◌, List, [], ◌∷◌, slice_index_or, Result, Ok, Err}
use Rattle.refusals.specs.declared.Refusal.{Refusal}
use Rattle.refusals.specs.Refusals.{unless_refused}

-- ORDER-1, FORM-10: the number of refusal r
abbrev pub number : Refusal → ℕ
number Refusal.SpeedOutOfRange = 1
number Refusal.WidthOutOfRange = 2
number Refusal.ClearanceTooLarge = 3
number Refusal.MedianUnfit = 4
number Refusal.AccessTooLarge = 5
number Refusal.LanesNotOfTheKind = 6
number Refusal.DemandTooLarge = 7
number Refusal.FactorOutOfRange = 8
number Refusal.ShareTooLarge = 9
number Refusal.SpeedBelowLowerEnd = 10
number Refusal.CarsTooFew = 11
number Refusal.FlowTooLarge = 12
number Refusal.SurveyedSpeedOutOfRange = 13
number Refusal.NoLaneCount = 14
number Refusal.LineMalformed = 15
number Refusal.LetterUnknown = 16
number Refusal.BufferTooShort = 17
number Refusal.DayUnfit = 18
number Refusal.WeatherUnfit = 19
number Refusal.SharesUnfit = 20
number Refusal.DailyTrafficTooLarge = 21
number Refusal.EndsReversed = 22

-- ORDER-1: the refusals, in the order of their numbers
unfoldable pub in_order : List Refusal
in_order =
    Refusal.SpeedOutOfRange ∷ Refusal.WidthOutOfRange ∷ Refusal.ClearanceTooLarge ∷ Refusal.MedianUnfit
    ∷ Refusal.AccessTooLarge ∷ Refusal.LanesNotOfTheKind ∷ Refusal.DemandTooLarge
    ∷ Refusal.FactorOutOfRange ∷ Refusal.ShareTooLarge ∷ Refusal.SpeedBelowLowerEnd ∷ Refusal.CarsTooFew
    ∷ Refusal.FlowTooLarge ∷ Refusal.SurveyedSpeedOutOfRange ∷ Refusal.NoLaneCount ∷ Refusal.LineMalformed
    ∷ Refusal.LetterUnknown ∷ Refusal.BufferTooShort ∷ Refusal.DayUnfit ∷ Refusal.WeatherUnfit
    ∷ Refusal.SharesUnfit ∷ Refusal.DailyTrafficTooLarge ∷ Refusal.EndsReversed ∷ []

-- ORDER-1: the refusal of number n
-- 0 has the first, and any number above 22 the last: no refusal has such a number
unfoldable pub refusal_of : ℕ → Refusal
refusal_of n = slice_index_or in_order (n - 1) Refusal.EndsReversed

-- FORM-10: the number of an answer's refusal, 0 where there is none
abbrev pub refusal_number : {A : Type 0} → Result A Refusal → ℕ
refusal_number (Ok a) = 0
refusal_number (Err r) = number r

-- ORDER-1: a where the number n is 0, else the refusal of that number
abbrev pub ok_unless : {A : Type 0} → ℕ → A → Result A Refusal
ok_unless n a = unless_refused n (Ok a) (λ n. Err (refusal_of n))
