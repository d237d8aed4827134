-- Finding functions by their names.
use Rattle.std.proofs.Common.{◌≡◌, ℕ, zero, suc, ◌+◌, ◌<◌, ◌≤◌, leb, Bool, true, false, List, [], ◌∷◌, take, cond, refl, sym, ap, ◌∙◌, arith}
use Rattle.std.specs.Prelude.{◌||◌, not, Option, Some, None}
use Rattle.std.specs.Option.{option_map}
use Rattle.std.proofs.lemmas.Option.{none-some}
use Rattle.std.specs.List.{list_any, slice_get}
use Rattle.std.specs.Str.{bytes_eq}
use Rattle.std.proofs.lemmas.Bool.{leb-true, leb-false}
use Rattle.rule_model.proofs.Numbers.{some_same}
use Rattle.rule_model.specs.Words.{if_some}
use Rattle.rule_model.specs.Facts.{Declared, name_in}
use Rattle.rule_model.specs.Symbols.{function_named, function_place, is_named, is_this}
use Rattle.rule_facts.specs.declared.symbols.Declared as code
use Rattle.rule_facts.specs.Views.{all_declared, declared_view}

no_place : (o : Option ℕ) → None ≡ option_map (λ n. n + 1) o → None ≡ o
no_place None e = refl
no_place (Some n) e = absurd (none-some (n + 1) e)

shifted : (o : Option ℕ) (n m : ℕ) → m ≡ n + 1 → option_map (λ p. m + p) o ≡ option_map (λ p. n + p) (option_map (λ p. p + 1) o)
shifted None n m e = refl
shifted (Some p) n m e = let both : m + p ≡ n + (p + 1) = omega (arith, e) in ap Some both

-- one function more in front of those that a table has
pub found_more : (name : List ℕ) (f : Declared) (fs : List Declared) (n m : ℕ) (key : List ℕ) (before after : Option ℕ) → m ≡ n + 1
    → Some key ≡ name_in f.props → after ≡ cond (bytes_eq key name) (Some n) before → before ≡ option_map (λ p. m + p) (function_place name fs)
    → after ≡ option_map (λ p. n + p) (function_place name (f ∷ fs))
found_more name f fs n m key before after e is put was =
    put ∙ go (bytes_eq key name) ∙ ap (λ b. option_map (λ p. n + p) (cond b (Some 0) (option_map (λ p. p + 1) (function_place name fs)))) (ap (is_this name) is)
  where
    go : (b : Bool) → cond b (Some n) before ≡ option_map (λ p. n + p) (cond b (Some 0) (option_map (λ p. p + 1) (function_place name fs)))
    go true = let same : n ≡ n + 0 = omega arith in ap Some same
    go false = was ∙ shifted (function_place name fs) n m e

-- and one that has no name
pub found_none : (name : List ℕ) (f : Declared) (fs : List Declared) (n m : ℕ) (before : Option ℕ) → m ≡ n + 1
    → None ≡ name_in f.props → before ≡ option_map (λ p. m + p) (function_place name fs)
    → before ≡ option_map (λ p. n + p) (function_place name (f ∷ fs))
found_none name f fs n m before e is was =
    was ∙ shifted (function_place name fs) n m e
    ∙ ap (λ b. option_map (λ p. n + p) (cond b (Some 0) (option_map (λ p. p + 1) (function_place name fs)))) (ap (is_this name) is)

pub from_zero : (o : Option ℕ) → option_map (λ p. 0 + p) o ≡ o
from_zero None = refl
from_zero (Some p) = let same : 0 + p ≡ p = omega arith in ap Some same

-- the function at the place
pub named_at : (name : List ℕ) (fs : List Declared) → function_named name fs ≡ if_some (function_place name fs) (slice_get fs)
named_at name [] = refl
named_at name (f ∷ fs) = go (is_named name f) (function_place name fs) (named_at name fs)
  where
    go : (b : Bool) (o : Option ℕ) → function_named name fs ≡ if_some o (slice_get fs)
        → cond b (Some f) (function_named name fs) ≡ if_some (cond b (Some 0) (option_map (λ p. p + 1) o)) (slice_get (f ∷ fs))
    go true o e = refl
    go false None e = e
    go false (Some p) e = e ∙ (let one : suc p ≡ p + 1 = omega arith in ap (slice_get (f ∷ fs)) one)

pub viewed_at : (ds : List code.Declared) (n : ℕ) → slice_get (all_declared ds) n ≡ option_map declared_view (slice_get ds n)
viewed_at [] n = refl
viewed_at (d ∷ ds) zero = refl
viewed_at (d ∷ ds) (suc n) = viewed_at ds n

-- no function in front of the place has the name
pub none_new : (name : List ℕ) (fs : List Declared) (count : ℕ) → None ≡ function_place name fs → list_any (is_named name) (take count fs) ≡ false
none_new name fs zero e = refl
none_new name [] (suc count) e = refl
none_new name (f ∷ fs) (suc count) e = go (is_named name f) e (none_new name fs count)
  where
    go : (b : Bool) → None ≡ cond b (Some 0) (option_map (λ p. p + 1) (function_place name fs)) → (None ≡ function_place name fs → list_any (is_named name) (take count fs) ≡ false)
        → (b || list_any (is_named name) (take count fs)) ≡ false
    go true k rest = absurd (none-some 0 k)
    go false k rest = rest (no_place (function_place name fs) k)

named_before : (name : List ℕ) (fs : List Declared) (count place : ℕ) → Some place ≡ function_place name fs → place < count → list_any (is_named name) (take count fs) ≡ true
named_before name fs zero place e less = absurd (omega (arith, less))
named_before name [] (suc count) place e less = absurd (none-some place (sym e))
named_before name (f ∷ fs) (suc count) place e less = go (is_named name f) (function_place name fs) e (λ p k below. named_before name fs count p k below)
  where
    go : (b : Bool) (o : Option ℕ) → Some place ≡ cond b (Some 0) (option_map (λ p. p + 1) o) → ((p : ℕ) → Some p ≡ o → p < count → list_any (is_named name) (take count fs) ≡ true)
        → (b || list_any (is_named name) (take count fs)) ≡ true
    go true o k rest = refl
    go false None k rest = absurd (none-some place (sym k))
    go false (Some p) k rest = let same : place ≡ p + 1 = some_same place (p + 1) k in rest p refl (omega (arith, same, less))

named_later : (name : List ℕ) (fs : List Declared) (count place : ℕ) → Some place ≡ function_place name fs → count ≤ place → list_any (is_named name) (take count fs) ≡ false
named_later name fs zero place e most = refl
named_later name [] (suc count) place e most = refl
named_later name (f ∷ fs) (suc count) place e most = go (is_named name f) (function_place name fs) e (λ p k below. named_later name fs count p k below)
  where
    go : (b : Bool) (o : Option ℕ) → Some place ≡ cond b (Some 0) (option_map (λ p. p + 1) o) → ((p : ℕ) → Some p ≡ o → count ≤ p → list_any (is_named name) (take count fs) ≡ false)
        → (b || list_any (is_named name) (take count fs)) ≡ false
    go true o k rest = let same : place ≡ 0 = some_same place 0 k in absurd (omega (arith, same, most))
    go false None k rest = absurd (none-some place (sym k))
    go false (Some p) k rest = let same : place ≡ p + 1 = some_same place (p + 1) k in rest p refl (omega (arith, same, most))

pub some_new : (name : List ℕ) (fs : List Declared) (count place : ℕ) → Some place ≡ function_place name fs → leb count place ≡ not (list_any (is_named name) (take count fs))
some_new name fs count place e = go (leb count place) refl
  where
    go : (b : Bool) → leb count place ≡ b → b ≡ not (list_any (is_named name) (take count fs))
    go true k = sym (ap not (named_later name fs count place e (leb-true count place k)))
    go false k = sym (ap not (named_before name fs count place e (leb-false count place k)))

pub at_some : (name : List ℕ) (ds : List code.Declared) (place : ℕ) (o : Option code.Declared) → Some place ≡ function_place name (all_declared ds) → o ≡ slice_get ds place
    → option_map declared_view o ≡ function_named name (all_declared ds)
at_some name ds place o e is =
    ap (option_map declared_view) is ∙ sym (viewed_at ds place) ∙ ap (λ p. if_some p (slice_get (all_declared ds))) e ∙ sym (named_at name (all_declared ds))

pub at_none : (name : List ℕ) (fs : List Declared) → None ≡ function_place name fs → None ≡ function_named name fs
at_none name fs e = ap (λ p. if_some p (slice_get fs)) e ∙ sym (named_at name fs)
