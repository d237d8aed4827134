-- The steps at a function's start.
use Rattle.std.proofs.Common.{◌≡◌, ℕ, ◌+◌, ◌<◌, ◌≤◌, Bool, true, false, List, [], ◌∷◌, ◌++◌, append_assoc, drop, get_or, length, map, Option, Some, None, is_some, refl, sym, ap, ◌∙◌, arith}
use Rattle.std.specs.Prelude.{if◌then◌else◌}
use Rattle.std.proofs.lemmas.List.{append-nil, drop_more, drop_all}
use mathlib.Core.Bool.{true≢false}
use Rattle.tree_model.specs.declared.type_tree.TypeTree.{TypeTree}
use Rattle.plain_tree.specs.Types.{PlainType, plain_type}
use Rattle.conversion_model.specs.declared.templates.Source.{Source}
use Rattle.conversion_model.specs.declared.templates.Source.TheVariants.{Operand, Made}
use Rattle.conversion_model.specs.Templates.{Step, Template}
use Rattle.conversion_model.specs.Chosen.{Ending, Leaves, State, and_then, cast, here, products, with_result, with_step}
use Rattle.conversion_model.specs.Choice.{at_part, entry_leaves, first_result, give_part, parameters_from}
use Rattle.choice_code.specs.Drafts.{behind, done_of, going_on, state_of}
use Rattle.choice_code.specs.declared.draft.Draft.{Draft}
use Rattle.cut_code.specs.declared.frames.PartTree.{PartTree}
use Rattle.unit_slots.specs.Slots.{plain_part}
use Rattle.unit_choices.specs.declared.entry.Entry.{Entry}
use Rattle.unit_choices.specs.Entries.{begun, goes_on, results_before}

-- Parameters

pub parameter_more : (base : ℕ) (takes : List TypeTree) (k : ℕ) (t : TypeTree) (sources more : List Source) (n : ℕ) → k < length takes → n ≡ base + k → more ≡ sources ++ Operand n ∷ []
    → sources ++ parameters_from (base + k) (map plain_type (drop k takes)) ≡ parameters_from base (map plain_type takes)
    → more ++ parameters_from (base + (k + 1)) (map plain_type (drop (k + 1) takes)) ≡ parameters_from base (map plain_type takes)
parameter_more base takes k t sources more n h at e is =
    let rest : List Source = parameters_from (base + k + 1) (map plain_type (drop (k + 1) takes)) in
    let next : base + (k + 1) ≡ base + k + 1 = omega arith in
    ap (λ m. more ++ parameters_from m (map plain_type (drop (k + 1) takes))) next
    ∙ ap (λ ss. ss ++ rest) e
    ∙ append_assoc sources (Operand n ∷ []) rest
    ∙ ap (λ m. sources ++ Operand m ∷ rest) at
    ∙ sym (ap (λ ts. sources ++ parameters_from (base + k) (map plain_type ts)) (drop_more takes k t h))
    ∙ is

pub parameters_start : (base : ℕ) (takes : List TypeTree) (sources : List Source) → sources ≡ [] → sources ++ parameters_from (base + 0) (map plain_type takes) ≡ parameters_from base (map plain_type takes)
parameters_start base takes sources e =
    let same : base + 0 ≡ base = omega arith in
    ap (λ ss. ss ++ parameters_from (base + 0) (map plain_type takes)) e ∙ ap (λ n. parameters_from n (map plain_type takes)) same

pub parameters_end : (base : ℕ) (takes : List TypeTree) (k : ℕ) (sources : List Source) → length takes ≤ k → sources ++ parameters_from (base + k) (map plain_type (drop k takes)) ≡ sources
parameters_end base takes k sources h = ap (λ ts. sources ++ parameters_from (base + k) (map plain_type ts)) (drop_all k takes h) ∙ append-nil sources

-- Arguments that are given

same_front : (xs : List Step) (rs : List Source) (r : Source) (x : Option Template)
    → results_before rs (behind xs (and_then x (λ rest. Some (with_result r rest)))) ≡ results_before (rs ++ r ∷ []) (behind xs x)
same_front xs rs r None = refl
same_front xs rs r (Some t) = ap (λ results. Some (record { steps = xs ++ t.steps; results = results })) (sym (append_assoc rs (r ∷ []) t.results))

cast_front : (xs : List Step) (rs : List Source) (c : Step) (r : Source) (x : Option Template)
    → results_before rs (behind xs (and_then x (λ rest. Some (with_step c (with_result r rest))))) ≡ results_before (rs ++ r ∷ []) (behind (xs ++ c ∷ []) x)
cast_front xs rs c r None = refl
cast_front xs rs c r (Some t) =
    ap (λ results. Some (record { steps = xs ++ c ∷ t.steps; results = results })) (sym (append_assoc rs (r ∷ []) t.results))
    ∙ ap (λ steps. Some (record { steps = steps; results = (rs ++ r ∷ []) ++ t.results })) (sym (append_assoc xs (c ∷ []) t.steps))

pub given_same : (d e : Entry) (value : Source) → e.results ≡ d.results ++ value ∷ [] → done_of e.draft ≡ done_of d.draft → e.draft.count ≡ d.draft.count
    → (next : ℕ → Option Template) (t : PlainType) (change : Option PlainType) → is_some change ≡ false → begun d (give_part change t value next d.draft.count) ≡ begun e (next e.draft.count)
given_same d e value rs ss n next t None h =
    same_front (done_of d.draft) d.results value (next d.draft.count)
    ∙ ap (λ results. results_before results (behind (done_of d.draft) (next d.draft.count))) (sym rs)
    ∙ ap (λ steps. results_before e.results (behind steps (next d.draft.count))) (sym ss)
    ∙ ap (λ k. begun e (next k)) (sym n)
given_same d e value rs ss n next t (Some u) h = absurd (true≢false h)

pub given_cast : (d e : Entry) (value : Source) (t : PlainType) → e.results ≡ d.results ++ Made d.draft.count ∷ [] → done_of e.draft ≡ done_of d.draft ++ cast value t ∷ [] → e.draft.count ≡ d.draft.count + 1
    → (next : ℕ → Option Template) (change : Option PlainType) → is_some change ≡ true → begun d (give_part change t value next d.draft.count) ≡ begun e (next e.draft.count)
given_cast d e value t rs ss n next None h = absurd (true≢false (sym h))
given_cast d e value t rs ss n next (Some u) h =
    cast_front (done_of d.draft) d.results (cast value t) (Made d.draft.count) (next (d.draft.count + 1))
    ∙ ap (λ results. results_before results (behind (done_of d.draft ++ cast value t ∷ []) (next (d.draft.count + 1)))) (sym rs)
    ∙ ap (λ steps. results_before e.results (behind steps (next (d.draft.count + 1)))) (sym ss)
    ∙ ap (λ k. begun e (next k)) (sym n)

-- A part

pub good_one : (good : Bool) (a b : Option Template) → good ≡ true → (if good then a else b) ≡ a
good_one good a b e = ap (λ t. if t then a else b) e

pub bad_one : (good : Bool) (a b : Option Template) → good ≡ false → (if good then a else b) ≡ b
bad_one good a b e = ap (λ t. if t then a else b) e

part_begun : (leaves : Leaves) (last : Ending) (d e : Entry) (s : State) (steps : List Step) → state_of e.draft ≡ s → done_of e.draft ≡ done_of d.draft → e.results ≡ d.results
    → begun d (products leaves last steps s) ≡ results_before e.results (behind (done_of e.draft) (products leaves last steps (state_of e.draft)))
part_begun leaves last d e s steps st dn rs =
    ap (λ q. begun d (products leaves last steps q)) (sym st)
    ∙ ap (λ xs. results_before d.results (behind xs (products leaves last steps (state_of e.draft)))) (sym dn)
    ∙ ap (λ results. results_before results (behind (done_of e.draft) (products leaves last steps (state_of e.draft)))) (sym rs)

pub part_fails : (leaves : Leaves) (last : Ending) (d e : Entry) (s : State) (steps : List Step) (g : Draft) (good : Bool) → state_of e.draft ≡ s → done_of e.draft ≡ done_of d.draft → e.results ≡ d.results
    → behind (done_of e.draft) (products leaves last steps (state_of e.draft)) ≡ (if good then going_on g last else None) → good ≡ false → begun d (products leaves last steps s) ≡ None
part_fails leaves last d e s steps g good st dn rs is bad =
    part_begun leaves last d e s steps st dn rs ∙ ap (results_before e.results) (is ∙ bad_one good (going_on g last) None bad)

pub part_given : (leaves : Leaves) (change : Option PlainType) (t : PlainType) (d e f h : Entry) (steps : List Step) (results : List Source) (takes : List PlainType) (value : Source) (good : Bool)
    → state_of e.draft ≡ at_part d.base takes d.draft.count → done_of e.draft ≡ done_of d.draft → e.results ≡ d.results
    → ((last : Ending) → behind (done_of e.draft) (products leaves last steps (state_of e.draft)) ≡ (if good then going_on f.draft last else None)) → good ≡ true
    → f.results ≡ e.results → value ≡ first_result (map (here (state_of f.draft)) results)
    → ((next : ℕ → Option Template) → begun f (give_part change t value next f.draft.count) ≡ begun h (next h.draft.count)) → h.base ≡ d.base + length takes
    → (rest : ℕ → ℕ → Option Template)
    → begun d (products leaves (λ s. give_part change t (first_result (map (here s) results)) (rest (d.base + length takes)) s.count) steps (at_part d.base takes d.draft.count)) ≡ goes_on h rest
part_given leaves change t d e f h steps results takes value good st dn rs is ok fr val given base rest =
    let last : Ending = λ s. give_part change t (first_result (map (here s) results)) (rest (d.base + length takes)) s.count in
    part_begun leaves last d e (at_part d.base takes d.draft.count) steps st dn rs
    ∙ ap (results_before e.results) (is last ∙ good_one good (going_on f.draft last) None ok)
    ∙ ap (λ results. results_before results (going_on f.draft last)) (sym fr)
    ∙ ap (λ v. begun f (give_part change t v (rest (d.base + length takes)) f.draft.count)) (sym val)
    ∙ given (rest (d.base + length takes))
    ∙ ap (λ b. begun h (rest b h.draft.count)) (sym base)

-- All parts

-- nothing is begun
pub begun_first : (e : Entry) (o : Option Template) → done_of e.draft ≡ [] → e.results ≡ [] → begun e o ≡ o
begun_first e o dn rs = ap (λ xs. results_before e.results (behind xs o)) dn ∙ ap (λ results. results_before results (behind [] o)) rs ∙ none_before o
  where
    none_before : (o : Option Template) → results_before [] (behind [] o) ≡ o
    none_before None = refl
    none_before (Some t) = refl

pub part_next : (change : PlainType → Option PlainType) (leaves : Leaves) (args : List (ℕ × TypeTree)) (parts : List PartTree) (k base n : ℕ) (v : ℕ × TypeTree) (p : PartTree)
    → k < length args → k < length parts → v ≡ get_or args k v → p ≡ get_or parts k p
    → entry_leaves change leaves (map (λ v. plain_type v.1) (drop k args)) base (map plain_part (drop k parts)) n
    ≡ products leaves (λ s. give_part (change (plain_type v.1)) (plain_type v.1) (first_result (map (here s) p.gives.results))
    (entry_leaves change leaves (map (λ v. plain_type v.1) (drop (k + 1) args)) (base + length (map plain_type p.takes)) (map plain_part (drop (k + 1) parts))) s.count) (plain_part p).gives.steps (at_part base (map plain_type p.takes) n)
part_next change leaves args parts k base n v p h j is at =
    ap (λ vs. entry_leaves change leaves (map (λ v. plain_type v.1) vs) base (map plain_part (drop k parts)) n) (drop_more args k v h ∙ ap (λ w. w ∷ drop (k + 1) args) (sym is))
    ∙ ap (λ ps. entry_leaves change leaves (map (λ v. plain_type v.1) (v ∷ drop (k + 1) args)) base (map plain_part ps) n) (drop_more parts k p j ∙ ap (λ q. q ∷ drop (k + 1) parts) (sym at))

-- no argument is left
pub arguments_end : (change : PlainType → Option PlainType) (leaves : Leaves) (args : List (ℕ × TypeTree)) (parts : List PartTree) (k base n : ℕ) → length args ≤ k
    → entry_leaves change leaves (map (λ v. plain_type v.1) (drop k args)) base (map plain_part (drop k parts)) n ≡ Some (record { steps = []; results = [] })
arguments_end change leaves args parts k base n h = ap (λ vs. entry_leaves change leaves (map (λ v. plain_type v.1) vs) base (map plain_part (drop k parts)) n) (drop_all k args h)

-- no part is left
pub parts_end : (change : PlainType → Option PlainType) (leaves : Leaves) (args : List (ℕ × TypeTree)) (parts : List PartTree) (k base n : ℕ) → length parts ≤ k
    → entry_leaves change leaves (map (λ v. plain_type v.1) (drop k args)) base (map plain_part (drop k parts)) n ≡ Some (record { steps = []; results = [] })
parts_end change leaves args parts k base n h =
    ap (λ ps. entry_leaves change leaves (map (λ v. plain_type v.1) (drop k args)) base (map plain_part ps) n) (drop_all k parts h) ∙ no_part (map (λ v. plain_type v.1) (drop k args))
  where
    no_part : (ts : List PlainType) → entry_leaves change leaves ts base [] n ≡ Some (record { steps = []; results = [] })
    no_part [] = refl
    no_part (t ∷ ts) = refl
