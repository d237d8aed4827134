-- Composition of templates whose steps fit.
use Rattle.std.proofs.Common.{◌≡◌, ℕ, zero, suc, ◌+◌, List, [], ◌∷◌, ◌++◌, Option, Some, None, refl, sym, ap, ◌∙◌, subst, length, map, arith}
use Rattle.std.specs.Prelude.{get_or}
use Rattle.std.proofs.lemmas.Option.{none-some}
use Rattle.plain_tree.specs.Types.{PlainType}
use Rattle.rule_model.specs.Forms.{at_place}
use Rattle.rule_model.proofs.Numbers.{some_same}
use Rattle.conversion_model.specs.declared.templates.Source.{Source}
use Rattle.conversion_model.specs.declared.templates.Source.TheVariants.{Operand, Made}
use Rattle.conversion_model.specs.Templates.{Step}
use Rattle.conversion_model.specs.Targets.{Shape}
use Rattle.conversion_model.specs.Chosen.{made_by, moved_step, placed}
use Rattle.fitting_rows.specs.Typed.{made_types, source_type, source_types, type_and, TypedStep, TypedSteps}

-- Types at places

pub at_left : {A : Type 0} (k : ℕ) (xs ys : List A) (x : A) → at_place k xs ≡ Some x → at_place k (xs ++ ys) ≡ Some x
at_left k [] ys x e = absurd (none-some x e)
at_left zero (y ∷ xs) ys x e = e
at_left (suc k) (y ∷ xs) ys x e = at_left k xs ys x e

at_behind : {A : Type 0} (k : ℕ) (xs ys : List A) → at_place (length xs + k) (xs ++ ys) ≡ at_place k ys
at_behind k [] ys = ap (λ n. at_place n ys) (omega arith)
at_behind k (x ∷ xs) ys = ap (λ n. at_place n (x ∷ (xs ++ ys))) (one_less k xs) ∙ at_behind k xs ys
  where
    one_less : (k : ℕ) (zs : List _) → length (x ∷ zs) + k ≡ suc (length zs + k)
    one_less k zs = omega arith

pub at_right : {A : Type 0} (k n : ℕ) (xs ys : List A) → length xs ≡ n → at_place (n + k) (xs ++ ys) ≡ at_place k ys
at_right k n xs ys e = ap (λ m. at_place (m + k) (xs ++ ys)) (sym e) ∙ at_behind k xs ys

pub joined_twice : {A : Type 0} (xs ys zs : List A) → (xs ++ ys) ++ zs ≡ xs ++ (ys ++ zs)
joined_twice [] ys zs = refl
joined_twice (x ∷ xs) ys zs = ap (λ l. x ∷ l) (joined_twice xs ys zs)

pub length_joined : {A : Type 0} (xs ys : List A) → length (xs ++ ys) ≡ length xs + length ys
length_joined [] ys = omega arith
length_joined (x ∷ xs) ys = omega (arith, length_joined xs ys)

-- Types of sources

pub record Parts (a : Option PlainType) (b : Option (List PlainType)) (types : List PlainType) : Type 0 where
  pub head : PlainType
  pub tail : List PlainType
  pub first : a ≡ Some head
  pub rest : b ≡ Some tail
  pub is : types ≡ head ∷ tail

pub and_parts : (a : Option PlainType) (b : Option (List PlainType)) (types : List PlainType) → type_and a b ≡ Some types → Parts a b types
and_parts (Some t) (Some ts) types e = record { head = t; tail = ts; first = refl; rest = refl; is = sym (some_same (t ∷ ts) types e) }
and_parts (Some t) None types e = absurd (none-some types e)
and_parts None b types e = absurd (none-some types e)

pub and_both : {a : Option PlainType} {b : Option (List PlainType)} (t : PlainType) (ts : List PlainType) → a ≡ Some t → b ≡ Some ts → type_and a b ≡ Some (t ∷ ts)
and_both {b = b} t ts e f = ap (λ x. type_and x b) e ∙ ap (λ x. type_and (Some t) x) f

pub later_source : (ts us vs : List PlainType) (x : Source) (t : PlainType) → source_type ts us x ≡ Some t → source_type ts (us ++ vs) x ≡ Some t
later_source ts us vs (Operand k) t e = e
later_source ts us vs (Made k) t e = at_left k us vs t e

-- a way to change sources that keeps types keeps types of lists
pub all_sources : (ts us vs ws : List PlainType) (f : Source → Source) → ((x : Source) (t : PlainType) → source_type ts us x ≡ Some t → source_type vs ws (f x) ≡ Some t)
    → (xs : List Source) (types : List PlainType) → source_types ts us xs ≡ Some types → source_types vs ws (map f xs) ≡ Some types
all_sources ts us vs ws f each [] types e = e
all_sources ts us vs ws f each (x ∷ xs) types e =
    let p = and_parts (source_type ts us x) (source_types ts us xs) types e in
    and_both p.head p.tail (each x p.head p.first) (all_sources ts us vs ws f each xs p.tail p.rest) ∙ ap Some (sym p.is)

same_map : {A : Type 0} (xs : List A) → map (λ x. x) xs ≡ xs
same_map [] = refl
same_map (x ∷ xs) = ap (λ l. x ∷ l) (same_map xs)

pub later_sources : (ts us vs : List PlainType) (xs : List Source) (types : List PlainType) → source_types ts us xs ≡ Some types → source_types ts (us ++ vs) xs ≡ Some types
later_sources ts us vs xs types e = ap (λ l. source_types ts (us ++ vs) l) (sym (same_map xs)) ∙ all_sources ts us ts (us ++ vs) (λ x. x) (later_source ts us vs) xs types e

pub both_sources : (ts us : List PlainType) (xs ys : List Source) (av bv : List PlainType) → source_types ts us xs ≡ Some av → source_types ts us ys ≡ Some bv → source_types ts us (xs ++ ys) ≡ Some (av ++ bv)
both_sources ts us [] ys av bv e f = f ∙ ap (λ l. Some (l ++ bv)) (some_same [] av e)
both_sources ts us (x ∷ xs) ys av bv e f =
    let p = and_parts (source_type ts us x) (source_types ts us xs) av e in
    and_both p.head (p.tail ++ bv) p.first (both_sources ts us xs ys p.tail bv p.rest f) ∙ ap (λ l. Some (l ++ bv)) (sym p.is)

-- the source at a place of others
pub get_source : (ts us : List PlainType) (k : ℕ) (xs : List Source) (types : List PlainType) (d : Source) (t : PlainType) → source_types ts us xs ≡ Some types → at_place k types ≡ Some t → source_type ts us (get_or xs k d) ≡ Some t
get_source ts us k [] types d t e f = absurd (none-some t (ap (λ l. at_place k l) (some_same [] types e) ∙ f))
get_source ts us zero (x ∷ xs) types d t e f =
    let p = and_parts (source_type ts us x) (source_types ts us xs) types e in
    p.first ∙ sym (ap (λ l. at_place 0 l) p.is) ∙ f
get_source ts us (suc k) (x ∷ xs) types d t e f =
    let p = and_parts (source_type ts us x) (source_types ts us xs) types e in
    get_source ts us k xs p.tail d t p.rest (sym (ap (λ l. at_place (suc k) l) p.is) ∙ f)

pub placed_source : (ts us done made : List PlainType) (args : List Source) (base : ℕ) → source_types ts done args ≡ Some us → length done ≡ base
    → (x : Source) (t : PlainType) → source_type us made x ≡ Some t → source_type ts (done ++ made) (placed args base x) ≡ Some t
placed_source ts us done made args base e n (Operand k) t f = later_source ts done made (get_or args k (Operand k)) t (get_source ts done k args us (Operand k) t e f)
placed_source ts us done made args base e n (Made k) t f = at_right k base done made n ∙ f

-- Steps

pub map_length : {A B : Type 0} (f : A → B) (xs : List A) → length (map f xs) ≡ length xs
map_length f [] = refl
map_length f (x ∷ xs) = omega (arith, map_length f xs)

pub moved_typed : (Fit : Shape → Type 0) (ts us done made : List PlainType) (args : List Source) (base : ℕ) (succ : List ℕ) (steps : List Step) → source_types ts done args ≡ Some us → length done ≡ base
    → TypedSteps Fit us made steps → TypedSteps Fit ts (done ++ made) (map (moved_step args base succ) steps)
moved_typed Fit ts us done made args base succ [] e n typed = tt
moved_typed Fit ts us done made args base succ (x ∷ steps) e n typed =
    let here_step : TypedStep Fit us made x = typed.0 in (
      record {
        types = here_step.types;
        are = all_sources us made ts (done ++ made) (placed args base) (placed_source ts us done made args base e n) x.sources here_step.types here_step.are;
        fits = subst (λ m. Fit (record { name = x.name; operands = here_step.types; results = x.makes; props = x.props; attrs = []; successors = m; regions = 0 })) (sym (map_length (λ k. get_or succ k 0) x.successors)) here_step.fits;
      },
      subst (λ l. TypedSteps Fit ts l (map (moved_step args base succ) steps)) (sym (joined_twice done made x.makes)) (moved_typed Fit ts us done (made ++ x.makes) args base succ steps e n typed.1),
    )

pub moved_types : (args : List Source) (base : ℕ) (succ : List ℕ) (steps : List Step) → made_types (map (moved_step args base succ) steps) ≡ made_types steps
moved_types args base succ [] = refl
moved_types args base succ (x ∷ steps) = ap (λ l. x.makes ++ l) (moved_types args base succ steps)

pub types_count : (steps : List Step) → length (made_types steps) ≡ made_by steps
types_count [] = refl
types_count (x ∷ steps) = omega (arith, length_joined x.makes (made_types steps), types_count steps)

pub both_steps : (Fit : Shape → Type 0) (ts made : List PlainType) (xs ys : List Step) → TypedSteps Fit ts made xs → TypedSteps Fit ts (made ++ made_types xs) ys → TypedSteps Fit ts made (xs ++ ys)
both_steps Fit ts made [] ys a b = subst (λ l. TypedSteps Fit ts l ys) (none_behind made) b
  where
    none_behind : (l : List PlainType) → l ++ [] ≡ l
    none_behind [] = refl
    none_behind (t ∷ l) = ap (λ m. t ∷ m) (none_behind l)
both_steps Fit ts made (x ∷ xs) ys a b = (a.0, both_steps Fit ts (made ++ x.makes) xs ys a.1 (subst (λ l. TypedSteps Fit ts l ys) (sym (joined_twice made x.makes (made_types xs))) b))

pub both_types : (xs ys : List Step) → made_types (xs ++ ys) ≡ made_types xs ++ made_types ys
both_types [] ys = refl
both_types (x ∷ xs) ys = ap (λ l. x.makes ++ l) (both_types xs ys) ∙ sym (joined_twice x.makes (made_types xs) (made_types ys))
