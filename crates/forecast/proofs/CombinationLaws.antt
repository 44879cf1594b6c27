-- Every whole combination within the ends, and some (specs/Forecasts).
use Rattle.std.proofs.Common.{Bool, not, ◌||◌, ℕ, ◌≤◌, arith, lt-ltb, le-ltb, T, T_not, ltb}
use Rattle.std.proofs.Math.Decide.{dec_le}
use Rattle.std.proofs.Math.Dec.{not_T}
use Rattle.numbers.proofs.TableLaws.{every_up_to-at, every_up_to-of}
use Rattle.forecast.specs.declared.Range.{Range}
use Rattle.forecast.specs.declared.Forecast.{Forecast}
use Rattle.forecast.specs.declared.Combination.{Combination}
use Rattle.forecast.specs.Forecasts.{combination_of, Within, every_within, every_combination, some_combination}
use Rattle.forecast.specs.Promises.{EveryInside}

every_within-at : (range : Range) (p : ℕ → Bool) → T (every_within range p) → (n : ℕ) → Within range n → T (p n)
unfolding every_within
every_within-at range p t n (low, high) =
    rw (le-ltb n range.low low) at (every_up_to-at (λ m. ltb m range.low || p m) range.high t n high)

every_within-of : (range : Range) (p : ℕ → Bool) → ((n : ℕ) → Within range n → T (p n)) → T (every_within range p)
unfolding every_within
every_within-of range p all =
    every_up_to-of (λ m. ltb m range.low || p m) range.high (λ n high. go n high (dec_le range.low n))
  where
    go : (n : ℕ) → n ≤ range.high → Dec (range.low ≤ n) → T (ltb n range.low || p n)
    go n high (yes low) = rw (le-ltb n range.low low) (all n (low, high))
    go n high (no low) = rw (lt-ltb n range.low (omega arith)) tt

module _ (forecast : Forecast) (p : Combination → Bool) where
  -- every combination within the ends passes
  pub every_combination-at : T (every_combination forecast p)
      → EveryInside forecast (λ demand share factor. T (p (combination_of demand share factor)))
  unfolding every_combination
  every_combination-at t demand share factor v s h =
      every_within-at forecast.peak_hour_factor _
      (every_within-at forecast.heavy_share _ (every_within-at forecast.demand _ t demand v) share s) factor h

  -- and the converse
  pub every_combination-of : EveryInside forecast (λ demand share factor. T (p (combination_of demand share factor)))
      → T (every_combination forecast p)
  unfolding every_combination
  every_combination-of all =
      every_within-of forecast.demand _ (λ demand v.
      every_within-of forecast.heavy_share _ (λ share s.
      every_within-of forecast.peak_hour_factor _ (λ factor h. all demand share factor v s h)))

module _ (forecast : Forecast) (p : Combination → Bool) where
  abbrev fails : Combination → Bool
  fails combination = not (p combination)

  -- a combination within the ends that passes is some
  pub some_combination-of : EveryInside forecast (λ demand share factor.
      T (p (combination_of demand share factor)) → T (some_combination forecast p))
  unfolding some_combination
  some_combination-of demand share factor v s h t =
      not_T (every_combination forecast fails)
      (λ none. T_not (p (combination_of demand share factor)) (every_combination-at forecast fails none demand share factor v s h) t)

  -- where none passes there is not some
  pub some_combination-none : EveryInside forecast (λ demand share factor. T (p (combination_of demand share factor)) → ⊥)
      → T (some_combination forecast p) → ⊥
  unfolding some_combination
  some_combination-none none t =
      T_not (every_combination forecast fails) t
      (every_combination-of forecast fails (λ demand share factor v s h.
      not_T (p (combination_of demand share factor)) (none demand share factor v s h)))
