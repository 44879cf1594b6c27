-- Instances of the promises (specs/Instances), shown by the promises.
use Rattle.std.proofs.Common.{◌≡◌, refl, ap, ℕ, arith, drop, get_or, [], ◌∷◌}
use Rattle.numbers.specs.Division.{div_up}
use Rattle.refusals.specs.Facts.{Shown}
use Rattle.curve.specs.Curves.{capacity, breakpoint}
use Rattle.curve.specs.Weather.{adjusted_speed, adjusted_capacity, adjusted_breakpoint, curve_under}
use Rattle.curve.specs.Speed.{fall_share_by, speed, shown_speed}
use Rattle.curve.specs.Service.{density, shown_density, density_limit, density_letter, letter_at, performance}
use Rattle.road.specs.declared.Case.{Case}
use Rattle.road.specs.FreeFlowSpeed.{uncapped_by, free_flow_speed_of}
use Rattle.road.specs.Refusals.{weather_unfit, road_refusals, load_refusals, field_refusals}
use Rattle.method.specs.Refusals.{speed_refusals, refusals}
use Rattle.method.specs.Checked.{curve_of}
use Rattle.method.specs.Flow.{heavy_factor_of, flow_rate_of}
use Rattle.method.specs.Assess.{measures}
use Rattle.method.specs.Boundary.{example}
use Rattle.answer.specs.Answers.{graded, answer_to}
use Rattle.answer.specs.Promises.{letter_in}
use Rattle.answer.specs.Boundary.{example_in_snow}
use Rattle.answer.specs.Instances.{multilane_with}
use Rattle.answer.proofs.Boundary.{example-speeds, example-figures}
use Rattle.forecast.specs.Forecasts.{forecast_of, range_refusals, forecast_refusals}
use Rattle.forecast.specs.Promises.{AcceptedForecast, case_with}
use Rattle.forecast.specs.Instances.{forecast_answered, level_freeway, wide, LetterBetween, TargetKept, TargetMissed, forecast_instances}
use Rattle.forecast.proofs.PromiseLaws.{every-letter-between, shown-at-the-ends, met-throughout}

-- the letters at the ends tell the eight figures
answered-by : (case : Case) (demand_low demand_high share_low share_high factor_low factor_high best worst : ℕ)
    → AcceptedForecast case (forecast_of demand_low demand_high share_low share_high factor_low factor_high)
    → letter_in (answer_to (case_with case demand_low share_low factor_high)) ≡ best
    → letter_in (answer_to (case_with case demand_high share_high factor_low)) ≡ worst
    → forecast_answered case (forecast_of demand_low demand_high share_low share_high factor_low factor_high)
    ≡ 0 ∷ best ∷ demand_low ∷ share_low ∷ factor_high ∷ worst ∷ demand_high ∷ share_high ∷ factor_low ∷ []
answered-by case demand_low demand_high share_low share_high factor_low factor_high best worst z b w =
    rw (z, shown-at-the-ends case demand_low demand_high share_low share_high factor_low factor_high z, b, w)

-- of given speeds
given-answered : (forecast_answered (multilane_with 0) (forecast_of 2160 2161 0 0 1000 1000)
    ≡ 0 ∷ 2 ∷ 2160 ∷ 0 ∷ 1000 ∷ 3 ∷ 2161 ∷ 0 ∷ 1000 ∷ [])
    × (forecast_answered level_freeway (forecast_of 825 826 1000 1000 1000 1000)
    ≡ 0 ∷ 1 ∷ 825 ∷ 1000 ∷ 1000 ∷ 2 ∷ 826 ∷ 1000 ∷ 1000 ∷ [])
unfolding div_up uncapped_by free_flow_speed_of weather_unfit road_refusals load_refusals field_refusals adjusted_speed speed_refusals refusals capacity
    breakpoint adjusted_capacity adjusted_breakpoint curve_under curve_of heavy_factor_of flow_rate_of fall_share_by speed shown_speed density shown_density
    density_limit density_letter letter_at performance measures graded range_refusals forecast_refusals
given-answered = (
  answered-by (multilane_with 0) 2160 2161 0 0 1000 1000 2 3 refl refl refl,
  answered-by level_freeway 825 826 1000 1000 1000 1000 1 2 refl refl refl,
)

-- the printed line's road has F = 60,782
pub instances-shown : Shown forecast_instances
unfolding div_up weather_unfit road_refusals load_refusals field_refusals adjusted_speed speed_refusals refusals capacity breakpoint
    adjusted_capacity adjusted_breakpoint curve_under curve_of heavy_factor_of flow_rate_of fall_share_by speed shown_speed density shown_density
    density_limit density_letter letter_at performance measures graded range_refusals forecast_refusals forecast_instances
instances-shown =
    let f = example-speeds.0 in (
      answered-by example 2642 2643 50 50 920 920 3 4 (simp f) (simp f) (simp f),
      (
        answered-by example 2642 2642 50 50 919 920 3 4 (simp f) (simp f) (simp f),
        (
          answered-by example 2642 2642 50 51 920 920 3 4 (simp f) (simp f) (simp f),
          (
            answered-by example 1000 4000 0 100 850 950 1 6 (simp f) (simp f) (simp f),
            (
              answered-by example 2000 2000 50 50 920 920 3 3 (simp f) (simp f) (simp f),
              (
                answered-by example 0 2642 50 50 920 920 1 3 (simp f) (simp f) (simp f),
                (
                  answered-by example 2643 4000 50 50 920 920 4 6 (simp f) (simp f) (simp f),
                  (answered-by (example_in_snow 0) 2221 2222 50 50 920 920 3 4 (simp f) (simp f) (simp f), (given-answered.0, (given-answered.1, tt))),
                ),
              ),
            ),
          ),
        ),
      ),
    )

-- its parts by name
parts : (forecast_answered example wide ≡ 0 ∷ 1 ∷ 1000 ∷ 0 ∷ 950 ∷ 6 ∷ 4000 ∷ 100 ∷ 850 ∷ [])
    × (forecast_answered example (forecast_of 0 2642 50 50 920 920) ≡ 0 ∷ 1 ∷ 0 ∷ 50 ∷ 920 ∷ 3 ∷ 2642 ∷ 50 ∷ 920 ∷ [])
    × (forecast_answered example (forecast_of 2643 4000 50 50 920 920) ≡ 0 ∷ 4 ∷ 2643 ∷ 50 ∷ 920 ∷ 6 ∷ 4000 ∷ 50 ∷ 920 ∷ [])
unfolding forecast_instances
parts = let behind = instances-shown.1.1.1 in (behind.0, behind.1.1.0, behind.1.1.1.0)

-- the eight figures of the printed line's road within three ranges
pub wide-answered : forecast_answered example wide ≡ 0 ∷ 1 ∷ 1000 ∷ 0 ∷ 950 ∷ 6 ∷ 4000 ∷ 100 ∷ 850 ∷ []
wide-answered = parts.0

-- three ranges, and the printed line's own load within them
pub letter-between : LetterBetween
letter-between =
    let (_, above, below) = every-letter-between example wide (ap (λ ns. get_or ns 0 0) wide-answered) 2000 50 920
    (omega arith, omega arith) (omega arith, omega arith) (omega arith, omega arith) in (
      ap (λ ns. get_or ns 1 0) wide-answered,
      ap (λ ns. get_or ns 0 0) example-figures,
      ap (λ ns. get_or ns 5 0) wide-answered,
      above,
      below,
    )

pub target-kept : TargetKept
target-kept =
    (met-throughout example (forecast_of 0 2642 50 50 920 920) (ap (λ ns. get_or ns 0 0) parts.1) 3).0.0
    (rw (ap (drop 1) parts.1) (omega arith))

pub target-missed : TargetMissed
target-missed =
    (met-throughout example (forecast_of 2643 4000 50 50 920 920) (ap (λ ns. get_or ns 0 0) parts.2) 3).1.0
    (rw (ap (drop 1) parts.2) (omega arith))
