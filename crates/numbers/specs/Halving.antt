-- Which numbers a search by halving tries for the greatest number up to an end that passes a test. 0 is known
-- to pass, and the number after the end stands for one that fails; neither is tried.
use Rattle.std.specs.Prelude.{ℕ, zero, suc, ◌+◌, ◌-◌, ◌/◌, Bool, if◌then◌else◌, List, [], ◌∷◌, nat_lt}

-- TRIES-1: the middle of two numbers, rounded down
unfoldable pub middle : ℕ → ℕ → ℕ
middle low high = low + (high - low) / 2

-- TRIES-1: what is tried between a number that passes and one that fails, in at most so many steps: the
-- middle, which takes the place of low where it passes and of high where it fails, until the two are
-- neighbours
unfoldable pub tried_between : (ℕ → Bool) → ℕ → ℕ → ℕ → List ℕ
tried_between p zero low high = []
tried_between p (suc steps) low high =
    let m = middle low high in
    let above = tried_between p steps m high in
    let below = tried_between p steps low m in
    let tried = m ∷ (if p m then above else below) in
    if nat_lt 1 (high - low) then tried else []

-- TRIES-1: what is tried for the greatest number up to the end; as many steps as the end are enough, since
-- each brings the two nearer
unfoldable pub tried_up_to : (ℕ → Bool) → ℕ → List ℕ
tried_up_to p end = tried_between p end 0 (suc end)
