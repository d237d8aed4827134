-- What is seen, by what is seen everywhere and where the region began.
use Rattle.std.proofs.Common.{◌≡◌, ℕ, zero, suc, ◌<◌, ◌≤◌, Bool, true, false, List, [], ◌∷◌, length, get_or, Option, Some, None, refl, ◌∙◌, arith, ⊎_elim}
use Rattle.std.specs.Prelude.{◌⊎◌, IfSome, nat_le, if◌then◌else◌}
use Rattle.std.proofs.lemmas.Bool.{le-leb}
use Rattle.std.proofs.lemmas.Bool.Decides.{leb_tells}
use Rattle.std.proofs.Math.Dec.{leb}
use Rattle.text_scopes.specs.declared.steps.Step.TheVariants as steps
use Rattle.text_scopes.specs.Seen.{Turn, defined, seen}
use Rattle.text_scopes.specs.declared.scopes.Scopes.{Scopes}
use Rattle.text_scopes.specs.Levels.{Stands, from, levels, start_of}

more_within : (n m : ℕ) (o : Option ℕ) → n ≤ m → IfSome o (λ p. p < n) → IfSome o (λ p. p < m)
more_within n m None le h = tt
more_within n m (Some p) le h = omega arith

defined_within : (over : ℕ) (b : Bool) (n : ℕ) (o : Option ℕ) → IfSome o (λ p. p < n) → IfSome (defined over b n o) (λ p. p < suc n)
defined_within zero true n o h = omega arith
defined_within zero false n o h = more_within n (suc n) o (omega arith) h
defined_within (suc over) b n o h = more_within n (suc n) o (omega arith) h

-- a definition that is seen stands before
seen_within : (out : Bool) (name over : ℕ) (ts : List Turn) → IfSome (seen out name over ts) (λ p. p < length ts)
seen_within out name over [] = tt
seen_within out name over ((steps.Defines, e) ∷ ts) = defined_within over _ (length ts) _ (seen_within out name over ts)
seen_within out name over ((steps.Uses, e) ∷ ts) = more_within _ _ _ (omega arith) (seen_within out name over ts)
seen_within out name over ((steps.Misses, e) ∷ ts) = more_within _ _ _ (omega arith) (seen_within out name over ts)
seen_within true name zero ((steps.Opens, e) ∷ ts) = more_within _ _ _ (omega arith) (seen_within true name zero ts)
seen_within false name zero ((steps.Opens, e) ∷ ts) = tt
seen_within out name (suc over) ((steps.Opens, e) ∷ ts) = more_within _ _ _ (omega arith) (seen_within out name over ts)
seen_within out name over ((steps.Closes, e) ∷ ts) = more_within _ _ _ (omega arith) (seen_within out name (suc over) ts)
seen_within out name over ((steps.Ends, e) ∷ ts) = tt
seen_within out name over ((steps.Stays, e) ∷ ts) = more_within _ _ _ (omega arith) (seen_within out name over ts)

start_within : (out : Bool) (over : ℕ) (ts : List Turn) → start_of out over ts ≤ length ts
start_within out over [] = omega arith
start_within out over ((steps.Defines, e) ∷ ts) = let h : start_of out over ts ≤ length ts = start_within out over ts in omega arith
start_within out over ((steps.Uses, e) ∷ ts) = let h : start_of out over ts ≤ length ts = start_within out over ts in omega arith
start_within out over ((steps.Misses, e) ∷ ts) = let h : start_of out over ts ≤ length ts = start_within out over ts in omega arith
start_within true zero ((steps.Opens, e) ∷ ts) = let h : start_of true zero ts ≤ length ts = start_within true zero ts in omega arith
start_within false zero ((steps.Opens, e) ∷ ts) = omega arith
start_within out (suc over) ((steps.Opens, e) ∷ ts) = let h : start_of out over ts ≤ length ts = start_within out over ts in omega arith
start_within out over ((steps.Closes, e) ∷ ts) = let h : start_of out (suc over) ts ≤ length ts = start_within out (suc over) ts in omega arith
start_within out over ((steps.Ends, e) ∷ ts) = omega arith
start_within out over ((steps.Stays, e) ∷ ts) = let h : start_of out over ts ≤ length ts = start_within out over ts in omega arith

kept : (b : Bool) (n : ℕ) → b ≡ true → (if b then Some n else None) ≡ Some n
kept true n e = refl
kept false n e = absurd cc

dropped : (b : Bool) (n : ℕ) → b ≡ false → (if b then Some n else None) ≡ None
dropped true n e = absurd cc
dropped false n e = refl

defined_from : (start over : ℕ) (b : Bool) (n : ℕ) (o p : Option ℕ) → start ≤ n → from start o ≡ p → from start (defined over b n o) ≡ defined over b n p
defined_from start zero true n o p le is = kept (nat_le start n) n (le-leb start n le)
defined_from start zero false n o p le is = is
defined_from start (suc over) b n o p le is = is

not_case : (n p : ℕ) → p < n → ((leb n p ≡ true) × (n ≤ p)) ⊎ ((leb n p ≡ false) × (p < n)) → leb n p ≡ false
not_case n p below tells = ⊎_elim (λ yes. let h : n ≤ p = yes.1 in absurd (omega arith)) (λ no. no.0) tells

not_at_most : (n p : ℕ) → p < n → nat_le n p ≡ false
not_at_most n p below = not_case n p below (leb_tells n p)

none_from : (n : ℕ) (o : Option ℕ) → IfSome o (λ p. p < n) → from n o ≡ None
none_from n None h = refl
none_from n (Some p) h = dropped (nat_le n p) p (not_at_most n p h)

pub seen_from : (out : Bool) (name over : ℕ) (ts : List Turn) → from (start_of out over ts) (seen true name over ts) ≡ seen out name over ts
seen_from out name over [] = refl
seen_from out name over ((steps.Defines, e) ∷ ts) = defined_from _ over _ _ _ _ (start_within out over ts) (seen_from out name over ts)
seen_from out name over ((steps.Uses, e) ∷ ts) = seen_from out name over ts
seen_from out name over ((steps.Misses, e) ∷ ts) = seen_from out name over ts
seen_from true name zero ((steps.Opens, e) ∷ ts) = seen_from true name zero ts
seen_from false name zero ((steps.Opens, e) ∷ ts) = none_from (suc (length ts)) (seen true name zero ts) (more_within _ _ _ (omega arith) (seen_within true name zero ts))
seen_from out name (suc over) ((steps.Opens, e) ∷ ts) = seen_from out name over ts
seen_from out name over ((steps.Closes, e) ∷ ts) = seen_from out name (suc over) ts
seen_from out name over ((steps.Ends, e) ∷ ts) = refl
seen_from out name over ((steps.Stays, e) ∷ ts) = seen_from out name over ts

-- what is found in the table is what is seen
pub found_seen : (out : Bool) (before : List Turn) (scopes : Scopes) (table : List (Option ℕ)) (name : ℕ) (found : Option ℕ) → name < length table
    → Stands scopes table (levels out before) → found ≡ from scopes.start (get_or table name None) → found ≡ seen out name 0 before
found_seen out before scopes table name found within h is =
    is ∙ rw (h.0, h.1 name within) (seen_from out name 0 before)
