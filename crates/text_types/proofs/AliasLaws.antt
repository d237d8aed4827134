-- One alias more.
use Rattle.std.proofs.Common.{◌≡◌, ℕ, ◌+◌, ◌≤◌, ◌<◌, Bool, true, false, List, [], ◌∷◌, length, map, drop, get_or, refl, sym, ◌∙◌, ap, subst, arith}
use Rattle.std.specs.Prelude.{◌==◌, if◌then◌else◌}
use Rattle.std.proofs.lemmas.List.{drop_more}
use mathlib.Core.Path.{fun_ext}
use Rattle.text_events.specs.declared.event.Event.{Event}
use Rattle.term_table.specs.declared.node.Node.{Node}
use Rattle.term_table.specs.Terms.{Term, nothing, term_at, Grows}
use Rattle.term_table.proofs.TableLaws.{zero_is}
use Rattle.text_types.specs.declared.alias_numbers.AliasNumbers.{AliasNumbers}
use Rattle.text_types.specs.Spelling.{Spelling}
use Rattle.text_types.specs.Items.{Aliases, begins, begun}
use Rattle.text_types.specs.Aliases.{after, aliases_from, bound, defines_new, piece}
use Rattle.text_types.specs.Stack.{Within, Stands, AliasesWithin, alias_terms, number_of, first_number}

pub first_within : (last : ℕ) (numbers : List ℕ) → Within last numbers → first_number numbers ≤ last
first_within last [] w = omega arith
first_within last (n ∷ ns) w = w.0

first_number_is : (words : Spelling) (env : Aliases) (nodes : List Node) (numbers : List ℕ) (events : List Event) → map (term_at nodes) numbers ≡ begun words env events
    → term_at nodes (first_number numbers) ≡ begins words env events
first_number_is words env nodes [] [] e = zero_is nodes
first_number_is words env nodes [] (x ∷ events) e = absurd cc
first_number_is words env nodes (n ∷ ns) [] e = absurd cc
first_number_is words env nodes (n ∷ ns) (x ∷ events) e = cc

pub first_is : (words : Spelling) (env : Aliases) (nodes : List Node) (numbers : List ℕ) (events : List Event) → Stands nodes numbers (begun words env events)
    → term_at nodes (first_number numbers) ≡ begins words env events
first_is words env nodes numbers events s = first_number_is words env nodes numbers events s.is

-- the aliases of a table that grew
pub aliases_kept : (old new : List Node) (aliases : AliasNumbers) → Grows old new → AliasesWithin (length old) aliases → alias_terms new aliases ≡ alias_terms old aliases
aliases_kept old new aliases grows within = fun_ext (λ name. grows.kept (number_of aliases name) (within name))

pub aliases_within_more : (m n : ℕ) (aliases : AliasNumbers) → m ≤ n → AliasesWithin m aliases → AliasesWithin n aliases
aliases_within_more m n aliases h within = λ name. let w = within name in omega arith

pub none_aliases : (nodes : List Node) (aliases : AliasNumbers) → ((name : ℕ) → number_of aliases name ≡ 0) → alias_terms nodes aliases ≡ (λ _. nothing)
none_aliases nodes aliases h = fun_ext (λ name. ap (term_at nodes) (h name) ∙ zero_is nodes)

one_bound : (b : Bool) (nodes : List Node) (number other : ℕ) → term_at nodes (if b then number else other) ≡ (if b then term_at nodes number else term_at nodes other)
one_bound true nodes number other = refl
one_bound false nodes number other = refl

pub now_bound : (old new : List Node) (aliases more : AliasNumbers) (name number : ℕ) (term : Term) → Grows old new → AliasesWithin (length old) aliases → term_at new number ≡ term
    → ((other : ℕ) → number_of more other ≡ (if other == name then number else number_of aliases other)) → alias_terms new more ≡ bound name term (alias_terms old aliases)
now_bound old new aliases more name number term grows within is h =
    fun_ext (λ other. ap (term_at new) (h other) ∙ one_bound (other == name) new number (number_of aliases other)
    ∙ ap (λ t. if other == name then t else term_at new (number_of aliases other)) is
    ∙ ap (λ t. if other == name then term else t) (grows.kept (number_of aliases other) (within other)))

within_case : (b : Bool) (last number other : ℕ) → number ≤ last → other ≤ last → (if b then number else other) ≤ last
within_case true last number other h k = h
within_case false last number other h k = k

pub bound_within : (last : ℕ) (aliases more : AliasNumbers) (name number : ℕ) → number ≤ last → AliasesWithin last aliases
    → ((other : ℕ) → number_of more other ≡ (if other == name then number else number_of aliases other)) → AliasesWithin last more
bound_within last aliases more name number h within is = λ other.
    let P : ℕ → Type 0 = λ n. n ≤ last in subst P (sym (is other)) (within_case (other == name) last number (number_of aliases other) h (within other))

-- the definition of an alias, and another event
pub defined_is : (words : Spelling) (old new : List Node) (aliases more : AliasNumbers) (e : Event) (behind value : List Event) (number : ℕ) → Grows old new → AliasesWithin (length old) aliases
    → defines_new (alias_terms old aliases) e ≡ true → value ≡ piece behind → term_at new number ≡ begins words (alias_terms old aliases) value
    → ((other : ℕ) → number_of more other ≡ (if other == e.name then number else number_of aliases other)) → alias_terms new more ≡ after words (alias_terms old aliases) e behind
defined_is words old new aliases more e behind value number grows within it cut is h =
    now_bound old new aliases more e.name number (begins words (alias_terms old aliases) (piece behind)) grows within (is ∙ ap (begins words (alias_terms old aliases)) cut) h
    ∙ ap (λ b. if b then bound e.name (begins words (alias_terms old aliases) (piece behind)) (alias_terms old aliases) else alias_terms old aliases) (sym it)

pub other_is : (words : Spelling) (env : Aliases) (e : Event) (behind : List Event) → defines_new env e ≡ false → env ≡ after words env e behind
other_is words env e behind it = ap (λ b. if b then bound e.name (begins words env (piece behind)) env else env) (sym it)

-- an event more
pub one_more : (words : Spelling) (env env' whole : Aliases) (events : List Event) (i : ℕ) (d : Event) → i < length events → aliases_from words env (drop i events) ≡ whole
    → env' ≡ after words env (get_or events i d) (drop (i + 1) events) → aliases_from words env' (drop (i + 1) events) ≡ whole
one_more words env env' whole events i d within so_far e =
    ap (λ f. aliases_from words f (drop (i + 1) events)) e ∙ ap (aliases_from words env) (sym (drop_more events i d within)) ∙ so_far
