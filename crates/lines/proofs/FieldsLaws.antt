-- The fields of a line, read in turn (specs/Fields, specs/ReadSoFar).
use Rattle.std.proofs.Common.{◌≡◌, ℕ, suc, ◌+◌, ◌-◌, ◌<◌, Option, Some, None, List, [], ◌∷◌, ◌++◌}
use Rattle.std.proofs.Common.{length, take, drop, get_or, refl, sym, ap, ◌∙◌, arith, length-take-le, append-nil, append_assoc}
use Rattle.std.proofs.Common.{⊎_elim, eq-or-lt_of_le, take_all, eq-eqb, ne_eqb}
use Rattle.std.proofs.lemmas.List.{take_rest}
use Rattle.std.proofs.lemmas.Bool.{cases_eq}
use Rattle.std.proofs.lemmas.Bool.Decides.{nat_tests}
use Rattle.std.specs.Borrow.{Bor}
use Rattle.text.specs.Bytes.{tab}
use Rattle.text.specs.Parts.{parts, count_before}
use Rattle.text.specs.Decimal.{decimal_up_to, decimal}
use Rattle.text.proofs.PartsLaws.{count_before-le, parts-one, parts-more, parts-pos}
use Rattle.lines.specs.Fields.{Field, layout, letters, letter, clear_factors, completed, spelled, number, field_as, values_of, joined}
use Rattle.lines.specs.ReadSoFar.{first_field, before, Reads, ReadsOne, letter_among, or_clear, parts_left, weather_values}
use Rattle.curve.specs.Weather.{clear}
use Rattle.lines.specs.Reading.{read_values, read_line}
use Rattle.lines.proofs.ReadingLaws.{case_of-values, read_line-long}
use Rattle.lines.proofs.Laws.{values_of-sizes, length-never-decides-alone}

-- ---- one field
-- the first field is one byte
pub lone : (bs : List ℕ) → (get_or bs 0 0 ≡ tab → ⊥) → 0 < length bs → (1 < length bs → get_or bs 1 0 ≡ tab)
    → count_before tab bs ≡ 1
unfolding count_before
lone [] n h t = absurd (omega arith)
lone (b ∷ []) n h t = rw (ne_eqb b tab n)
lone (b ∷ d ∷ bs) n h t = let e : d ≡ tab = t (omega arith) in rw (ne_eqb b tab n, eq-eqb d tab e)

pub not-lone : (bs : List ℕ) → count_before tab bs ≡ 1
    → (get_or bs 0 0 ≡ tab → ⊥) × (0 < length bs) × (1 < length bs → get_or bs 1 0 ≡ tab)
unfolding count_before
not-lone [] e = absurd (omega arith)
not-lone (b ∷ []) e = grind (arith, nat_tests)
not-lone (b ∷ d ∷ bs) e = grind (arith, nat_tests)

first-part : (bs : List ℕ) → parts tab bs ≡ first_field bs ∷ drop 1 (parts tab bs)
first-part bs =
    ⊎_elim (λ e. rw (parts-one tab bs e, take_all (count_before tab bs) bs (omega arith))) (λ l. rw (parts-more tab bs l))
    (eq-or-lt_of_le (count_before-le tab bs))

module _ (f : Field) (bs : List ℕ) where
  -- the first field is malformed: so are the fields from there on
  pub reads-none : field_as f (first_field bs) ≡ None → (behind : List Field) → values_of (f ∷ behind) (parts tab bs) ≡ None
  unfolding values_of
  reads-none e behind = rw (first-part bs, e)

  -- it has a value, or none
  pub reads : (v : Option ℕ) (qs : List (List ℕ)) → v ≡ field_as f (first_field bs) → qs ≡ drop 1 (parts tab bs)
      → ReadsOne f v (parts tab bs) qs
  unfolding values_of
  reads v qs e r behind = rw (first-part bs, sym e, r)

-- no field is left
pub none-left : (f : Field) (behind : List Field) → values_of (f ∷ behind) [] ≡ None
unfolding values_of
none-left f behind = refl

-- last, not-last: what is left behind the first field, where no tab follows and where one does
pub last : (bs : List ℕ) → count_before tab bs ≡ length bs → [] ≡ drop 1 (parts tab bs)
last bs e = rw (parts-one tab bs e)

pub not-last : (bs : List ℕ) (n i : ℕ) → n + 1 ≡ i → count_before tab bs ≡ n → n < length bs
    → parts tab (take (length bs - i) (drop i bs)) ≡ drop 1 (parts tab bs)
not-last bs n i e c h =
    let more : count_before tab bs < length bs = omega arith in
    let next : suc n ≡ i = omega arith in
    rw (take_rest bs i, parts-more tab bs more, c, next)

-- letter-read, letter-none: a field of one byte, and another
pub letter-read : (ls bs : List ℕ) (v : Option ℕ) (qs : List (List ℕ)) → count_before tab bs ≡ 1 → v ≡ letter_among ls (get_or bs 0 0)
    → qs ≡ drop 1 (parts tab bs) → ReadsOne (letters ls) v (parts tab bs) qs
unfolding count_before letter field_as
letter-read ls [] v qs e h r = absurd (omega arith)
letter-read ls (b ∷ bs) v qs e h r = reads (letters ls) (b ∷ bs) v qs (h ∙ rw e) r

pub letter-none : (ls bs : List ℕ) → (count_before tab bs ≡ 1 → ⊥) → (behind : List Field)
    → values_of (letters ls ∷ behind) (parts tab bs) ≡ None
unfolding letter field_as
letter-none ls bs n =
    let size = length-take-le (count_before tab bs) bs (count_before-le tab bs) in
    reads-none (letters ls) bs (rw (size, ne_eqb (count_before tab bs) 1 n))

-- ---- a line by what was read of it
-- no field is left, and no part; or a part too many
pub all-read : values_of [] [] ≡ Some []
unfolding values_of
all-read = refl

pub over-read : (p : List ℕ) (ps : List (List ℕ)) → values_of [] (p ∷ ps) ≡ None
unfolding values_of
over-read p ps = refl

pub line-read : (bs : List ℕ) → read_line bs ≡ read_values (values_of layout (completed (parts tab bs)))
line-read bs = length-never-decides-alone bs

-- a field too many
pub too-many : (bs : List ℕ) → values_of [] (parts tab bs) ≡ None
unfolding values_of
too-many bs = rw (first-part bs)

-- what read_line rests on
pub ruleset line_laws = (line-read, all-read, too-many, append-nil, case_of-values, read_line-long)

-- ---- a line of 13 fields
two-joined : (v w : ℕ) (o : Option (List ℕ)) → joined (Some v) (joined (Some w) o) ≡ before (Some (v ∷ w ∷ [])) o
two-joined v w None = refl
two-joined v w (Some vs) = refl

-- clear weather's factors, read
pub clear-read : (behind : List Field) → values_of (drop 13 layout ++ behind) clear_factors
    ≡ before (Some (weather_values clear)) (values_of behind [])
unfolding decimal_up_to decimal layout values_of field_as number spelled
clear-read behind = two-joined 1000 1000 (values_of behind [])

-- where a part is left, no weather is taken as clear
some-part : (p : List ℕ) (ps : List (List ℕ)) → or_clear (p ∷ ps) ≡ p ∷ ps
some-part p ps = rw (ne_eqb (suc (length ps)) 0 (λ z. omega arith))

pub some-left : (o : Option (Bor (List ℕ))) (bs : Bor (List ℕ)) → o ≡ Some bs → or_clear (parts_left o) ≡ parts_left o
some-left o bs e = rw e (rw (ne_eqb (length (parts tab bs.now)) 0 (λ z. absurd (omega (arith, parts-pos tab bs.now)))))

pub ruleset weather_laws = (clear-read, some-left)

before-none : (o : Option (List ℕ)) → before o None ≡ None
before-none None = refl
before-none (Some vs) = refl

before-nil : (o : Option (List ℕ)) → before o (Some []) ≡ o
before-nil None = refl
before-nil (Some vs) = rw append-nil

nil-before : (o : Option (List ℕ)) → o ≡ before (Some []) o
nil-before None = refl
nil-before (Some vs) = refl

joined-before : (v : Option ℕ) (o r : Option (List ℕ)) → joined v (before o r) ≡ before (joined v o) r
joined-before None o r = refl
joined-before (Some v) None r = refl
joined-before (Some v) (Some vs) None = refl
joined-before (Some v) (Some vs) (Some ws) = refl

-- parts of which there are not as many as fields
not-as-many : (fs : List Field) (ps : List (List ℕ)) → (length ps ≡ length fs → ⊥) → values_of fs ps ≡ None
not-as-many fs ps n = go (values_of fs ps) refl
  where
    go : (o : Option (List ℕ)) → values_of fs ps ≡ o → o ≡ None
    go None e = refl
    go (Some vs) e = absurd (n (values_of-sizes fs ps vs e).0)

-- parts of which there are as many, and others behind them
as-many : (fs gs : List Field) (ps qs : List (List ℕ)) → length ps ≡ length fs
    → values_of (fs ++ gs) (ps ++ qs) ≡ before (values_of fs ps) (values_of gs qs)
unfolding values_of
as-many [] gs [] qs e = nil-before (values_of gs qs)
as-many [] gs (p ∷ ps) qs e = absurd (omega arith)
as-many (f ∷ fs) gs [] qs e = absurd (omega arith)
as-many (f ∷ fs) gs (p ∷ ps) qs e = rw (as-many fs gs ps qs (omega arith)) (joined-before (field_as f p) _ _)

-- the first 13 fields are read: then the weather, or clear weather where no field is left
pub completed-reads : (o : Option (List ℕ)) (ps qs : List (List ℕ)) → Reads (take 13 layout) o ps qs
    → values_of layout (completed ps) ≡ before o (values_of (drop 13 layout) (or_clear qs))
unfolding layout completed
completed-reads o ps qs first =
    ⊎_elim (λ e. rw (eq-eqb (length ps) 13 e) (thirteen e qs first)) (λ n. rw (ne_eqb (length ps) 13 n) (other n qs first))
    (cases_eq (length ps) 13)
  where
    thirteen : length ps ≡ 13 → (qs : List (List ℕ)) → Reads (take 13 layout) o ps qs
        → values_of layout (ps ++ clear_factors) ≡ before o (values_of (drop 13 layout) (or_clear qs))
    thirteen e [] first =
        as-many (take 13 layout) (drop 13 layout) ps clear_factors e ∙ rw (first [], all-read, before-nil o)
    thirteen e (q ∷ qs) first =
        let none : before o (values_of (drop 13 layout) (q ∷ qs)) ≡ None =
        sym (first (drop 13 layout)) ∙ not-as-many layout ps (λ f. omega arith) in
        as-many (take 13 layout) (drop 13 layout) ps clear_factors e ∙ rw (first [], over-read q qs, before-none o, some-part q qs) (sym none)

    other : (length ps ≡ 13 → ⊥) → (qs : List (List ℕ)) → Reads (take 13 layout) o ps qs
        → values_of layout ps ≡ before o (values_of (drop 13 layout) (or_clear qs))
    other n [] first =
        let none : o ≡ None =
        sym (before-nil o) ∙ ap (before o) (sym all-read) ∙ sym (first []) ∙ not-as-many (take 13 layout) ps n in
        first (drop 13 layout) ∙ rw none
    other n (q ∷ qs) first = first (drop 13 layout) ∙ rw (some-part q qs)

-- some values and then others
pub before-before : (vs ws : List ℕ) (o : Option (List ℕ)) → before (Some vs) (before (Some ws) o) ≡ before (Some (vs ++ ws)) o
before-before vs ws None = refl
before-before vs ws (Some xs) = rw append_assoc
