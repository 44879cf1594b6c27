-- The refusal of a case with a demand, by the one with no demand; proofs/DayCaseLaws shows that it is the
-- refusal of the single call.
use Rattle.std.specs.Prelude.{ℕ, min, if◌then◌else◌, nat_lt}
use Rattle.road.specs.Refusals.{greatest_demand}

-- DAY-3, REFUSAL-7: the refusal's number of a case with a demand, if n refuses it with no demand: 7 where
-- the demand is too large and n is above 7, else n
abbrev pub refusal_with : ℕ → ℕ → ℕ
refusal_with n demand = if nat_lt greatest_demand demand then min n 7 else n
