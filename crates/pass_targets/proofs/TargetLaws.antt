-- Targets of code are those of the passes.
use Rattle.std.proofs.Common.{◌≡◌, ℕ, Bool, true, false, List, [], ◌∷◌, map, refl, sym, ap, ◌∙◌}
use Rattle.std.specs.Prelude.{not, ◌&&◌, ◌||◌, filter, Some, None, if◌then◌else◌}
use Rattle.std.specs.List.{list_all}
use Rattle.std.specs.Str.{bytes_eq}
use Rattle.std.proofs.lemmas.Slice.Eq.{bytes_eq-Decides}
use Rattle.std.proofs.lemmas.Bool.{false≢true}
use Rattle.std.proofs.lemmas.Map.Views.{any-filter_same}
use mathlib.Core.Path.{fun_ext}
use Rattle.conversion_model.specs.Targets.{Legality, Legal, Dynamic, Illegal, Unknown, Target}
use Rattle.conversion_model.specs.Targets as says
use Rattle.pattern_model.specs.OperationNames.{is_among, is_known, llvm_names, llvm_branches}
use Rattle.pattern_model.specs.PassTable.{partial_target, full_target}
use Rattle.conversion_target.specs.declared.rule.LegalRule.{LegalRule}
use Rattle.conversion_target.specs.declared.rule.LegalRule.TheVariants.{TypesOwn}
use Rattle.conversion_target.specs.declared.target.Target as code
use Rattle.conversion_target.specs.Targets.{target_of, rule_in, dynamic_or}
use Rattle.pass_targets.specs.Known.{known_names, others}

-- a name is among those that a test lets through where the test holds of it and it is among all
among_filter : (p : List ℕ → Bool) (ns : List (List ℕ)) (name : List ℕ) → is_among (filter p ns) name ≡ (p name && is_among ns name)
among_filter p ns name = any-filter_same (λ n. bytes_eq n name) p (p name) (λ k e. ap p ((bytes_eq-Decides k name).0 e)) ns

-- the rule of a dynamic name
own_rule : (ds : List (List ℕ)) (name : List ℕ) → rule_in ds (map (λ n. TypesOwn) ds) name ≡ (if is_among ds name then Some TypesOwn else None)
own_rule [] name = refl
own_rule (d ∷ ds) name = here (bytes_eq d name) (own_rule ds name)
  where
    here : (e : Bool) → rule_in ds (map (λ n. TypesOwn) ds) name ≡ (if is_among ds name then Some TypesOwn else None)
        → (if e then Some TypesOwn else rule_in ds (map (λ n. TypesOwn) ds) name) ≡ (if e || is_among ds name then Some TypesOwn else None)
    here true rest = refl
    here false rest = rest

-- a name of one list is in no other
apart : (is ds : List (List ℕ)) (name : List ℕ) → list_all (λ d. not (is_among is d)) ds ≡ true → is_among ds name ≡ true → is_among is name ≡ false
apart is [] name all e = absurd (false≢true e)
apart is (d ∷ ds) name all e = here (bytes_eq d name) refl (is_among is d) refl all e (apart is ds name)
  where
    here : (b : Bool) → bytes_eq d name ≡ b → (c : Bool) → is_among is d ≡ c → (not c && list_all (λ x. not (is_among is x)) ds) ≡ true → (b || is_among ds name) ≡ true
        → (list_all (λ x. not (is_among is x)) ds ≡ true → is_among ds name ≡ true → is_among is name ≡ false) → is_among is name ≡ false
    here b same true there all e rest = absurd (false≢true all)
    here true same false there all e rest = ap (is_among is) (sym ((bytes_eq-Decides d name).0 same)) ∙ there
    here false same false there all e rest = rest all e

-- what a partial target says, by three tests
by_tests : (i d k : Bool) → (d ≡ true → i ≡ false)
    → (if not (i || d) && k then Legal else dynamic_or (if d then Some TypesOwn else None) (if i then Illegal else Unknown))
    ≡ (if i then Illegal else if d then Dynamic says.TypesOwn else if k then Legal else Unknown)
by_tests true true k h = absurd (false≢true (sym (h refl)))
by_tests true false k h = refl
by_tests false true k h = refl
by_tests false false true h = refl
by_tests false false false h = refl

abbrev said : List (List ℕ) → List (List ℕ) → List LegalRule → List (List ℕ) → Target
said always dynamic rules illegal name =
    if is_among always name then Legal else dynamic_or (rule_in dynamic rules name) (if is_among illegal name then Illegal else Unknown)

partial_says : (is ds : List (List ℕ)) (name : List ℕ) → list_all (λ d. not (is_among is d)) ds ≡ true
    → said (others is ds known_names) ds (map (λ n. TypesOwn) ds) is name ≡ partial_target is ds name
partial_says is ds name all =
    ap (λ b. if b then Legal else dynamic_or (rule_in ds (map (λ n. TypesOwn) ds) name) (if is_among is name then Illegal else Unknown)) (among_filter (λ n. not (is_among is n || is_among ds n)) known_names name)
    ∙ ap (λ r. if not (is_among is name || is_among ds name) && is_known name then Legal else dynamic_or r (if is_among is name then Illegal else Unknown)) (own_rule ds name)
    ∙ by_tests (is_among is name) (is_among ds name) (is_known name) (apart is ds name all)

full_by_tests : (d k : Bool) → (if not d && k then Legal else dynamic_or (if d then Some TypesOwn else None) Unknown) ≡ (if d then Dynamic says.TypesOwn else if k then Legal else Unknown)
full_by_tests true k = refl
full_by_tests false true = refl
full_by_tests false false = refl

full_says : (name : List ℕ) → said (others [] llvm_branches llvm_names) llvm_branches (map (λ n. TypesOwn) llvm_branches) [] name ≡ full_target name
full_says name =
    ap (λ b. if b then Legal else dynamic_or (rule_in llvm_branches (map (λ n. TypesOwn) llvm_branches) name) Unknown) (among_filter (λ n. not (is_among [] n || is_among llvm_branches n)) llvm_names name)
    ∙ ap (λ r. if not (is_among llvm_branches name) && is_among llvm_names name then Legal else dynamic_or r Unknown) (own_rule llvm_branches name)
    ∙ full_by_tests (is_among llvm_branches name) (is_among llvm_names name)

-- a target by its lists
record Lists (t : code.Target) (always dynamic : List (List ℕ)) (rules : List LegalRule) (illegal : List (List ℕ)) : Type 0 where
  always_is : t.names.always ≡ always
  dynamic_is : t.names.dynamic ≡ dynamic
  rules_are : t.rules.items ≡ rules
  illegal_is : t.illegal ≡ illegal

says_so : (t : code.Target) (always dynamic : List (List ℕ)) (rules : List LegalRule) (illegal : List (List ℕ)) → Lists t always dynamic rules illegal → (name : List ℕ) → target_of t name ≡ said always dynamic rules illegal name
says_so t always dynamic rules illegal l name =
    ap (λ a. said a t.names.dynamic t.rules.items t.illegal name) l.always_is
    ∙ ap (λ d. said always d t.rules.items t.illegal name) l.dynamic_is
    ∙ ap (λ r. said always dynamic r t.illegal name) l.rules_are
    ∙ ap (λ i. said always dynamic rules i name) l.illegal_is

pub partial_is : (t : code.Target) (is ds : List (List ℕ)) → list_all (λ d. not (is_among is d)) ds ≡ true → t.names.always ≡ others is ds known_names → t.names.dynamic ≡ ds → t.rules.items ≡ map (λ n. TypesOwn) ds → t.illegal ≡ is
    → target_of t ≡ partial_target is ds
partial_is t is ds all a d r i = fun_ext (λ name.
    says_so t (others is ds known_names) ds (map (λ n. TypesOwn) ds) is (record { always_is = a; dynamic_is = d; rules_are = r; illegal_is = i }) name ∙ partial_says is ds name all)

pub full_is : (t : code.Target) → t.names.always ≡ others [] llvm_branches llvm_names → t.names.dynamic ≡ llvm_branches → t.rules.items ≡ map (λ n. TypesOwn) llvm_branches → t.illegal ≡ []
    → target_of t ≡ full_target
full_is t a d r i = fun_ext (λ name.
    says_so t (others [] llvm_branches llvm_names) llvm_branches (map (λ n. TypesOwn) llvm_branches) [] (record { always_is = a; dynamic_is = d; rules_are = r; illegal_is = i }) name ∙ full_says name)

-- a filter over the first of some names
pub others_next : (is ds : List (List ℕ)) (n : List ℕ) (ns : List (List ℕ)) → others is ds (n ∷ ns) ≡ (if not (is_among is n || is_among ds n) then n ∷ others is ds ns else others is ds ns)
others_next is ds n ns = refl
