-- What the code works out once a curve, so that a speed then costs a few products, and on kind M the division
-- of its place in the table of powers. It is no part of the method. The other terms stand at src/speed.rt's
-- struct CurveTerms.
use Rattle.std.specs.Prelude.{ℕ, ◌*◌}
use Rattle.curve.specs.declared.kind.Kind.{Kind}

-- CURVE-4, CURVE-5: the denominator of w, where c − b is the span
abbrev pub share_denominator_of : Kind → ℕ → ℕ
share_denominator_of Kind.Freeway span = span * span
share_denominator_of Kind.Multilane span = 1000000
