-- Each operation of a text that nothing refuses is registered, where others aren't allowed.
use Rattle.std.proofs.Common.{◌≡◌, ℕ, ◌+◌, ◌<◌, Bool, true, false, List, [], ◌∷◌, ◌++◌, map, length, Option, Some, None, refl, sym, ap, ◌∙◌, subst, arith, append_assoc, length-append}
use Rattle.std.specs.Prelude.{not, if◌then◌else◌}
use Rattle.std.specs.List.{list_all}
use Rattle.line_grammar.specs.Grammar.{Reads}
use Rattle.line_grammar.specs.Language.{first_at, one_later}
use Rattle.text_grammar.specs.declared.places.Place.{Place}
use Rattle.text_grammar.specs.declared.places.Place.TheVariants as places
use Rattle.text_grammar.specs.declared.words.Word.{Word}
use Rattle.text_grammar.specs.Places.{fits_at}
use Rattle.text_grammar.specs.Steps.{kind_of}
use Rattle.text_grammar.specs.Table.{generic}
use Rattle.text_grammar.specs.Text.{start}
use Rattle.text_grammar.proofs.ReadLemmas.{form_found}
use Rattle.tree_model.specs.declared.op_tree.ModuleTree.{ModuleTree}
use Rattle.plain_tree.specs.Ops.{plain_module}
use Rattle.text_events.specs.declared.event.Event.{Event}
use Rattle.text_events.specs.Names.{names_of}
use Rattle.text_events.specs.Source.{events_from, events_of, is_own, spelled_of}
use Rattle.text_scopes.specs.declared.bodies.Class.{Class}
use Rattle.text_scopes.specs.Bodies.{class_in}
use Rattle.text_kinds.specs.declared.found.Kind.TheVariants as found_kinds
use Rattle.text_kinds.specs.Classes.{first_unknown, is_unknown, kept, stands_unknown}
use Rattle.text_kinds.specs.Kinds.{NothingIn}
use Rattle.text_kinds.specs.Plain.{found_at}
use Rattle.text_refusals.specs.Classes.{classes_of, is_text, operation_class}
use Rattle.text_refusals.specs.Refusing.{at_byte, before, end_seen, events_seen, others, refusal_of}
use Rattle.text_refusals.specs.Spelling.{spelling_of}
use Rattle.text_refusals.proofs.SeenLemmas.{seen_once, unrefused}
use Rattle.event_trees.specs.Wording.{wording_of}
use Rattle.read_numbers.proofs.Bounds.{first_below}
use Rattle.read_scopes.proofs.Texts.{AllFit, all_fit, class_here, events_length, head, head_nothing, is_whole, kinds_length, name_text, names_length, not_found, nothing_seen, reads_length, tail, tail_nothing}
use Rattle.read_names.specs.Passing.{op_passes}
use Rattle.read_names.specs.Laws.{OfNames, ReadIsRegistered, is_registered}
use Rattle.read_names.proofs.Modules.{names_are_kept}

-- No event stands

not_there : (b : Bool) (o : Option ℕ) → ◌≡◌ {A = Option ℕ} (elim b [ true ↦ Some 0 | false ↦ one_later o ]) None → b ≡ false
not_there true o h = absurd cc
not_there false o h = refl

none_later : (o : Option ℕ) → one_later o ≡ None → o ≡ None
none_later None h = refl
none_later (Some n) h = absurd cc

not_later : (b : Bool) (o : Option ℕ) → ◌≡◌ {A = Option ℕ} (elim b [ true ↦ Some 0 | false ↦ one_later o ]) None → o ≡ None
not_later true o h = absurd cc
not_later false o h = none_later o h

known_events : (class : ℕ → Class) (es : List Event) → first_at kept (stands_unknown class) false es ≡ None → OfNames (λ name. is_unknown (class name) ≡ false) es
known_events class [] h = tt
known_events class (e ∷ es) h = (
  λ is. sym (ap (λ (p : Place). stands_unknown class false (record { place = p; name = e.name })) is) ∙ not_there (stands_unknown class false e) (first_at kept (stands_unknown class) false es) h,
  known_events class es (not_later (stands_unknown class false e) (first_at kept (stands_unknown class) false es) h),
)

-- what is told of each name by two things told of it
both : (P Q S : ℕ → Type 0) (es : List Event) → ((n : ℕ) → P n → Q n → S n) → OfNames P es → OfNames Q es → OfNames S es
both P Q S [] f p q = tt
both P Q S (e ∷ es) f p q = (λ is. f e.name (p.0 is) (q.0 is), both P Q S es f p.1 q.1)

module _ (text : List ℕ) (words : List Word) where
  -- a name's class is that of what it spells
  classes_told : (ws front : List Word) (own : ℕ) (ps : List Place) (ns : List ℕ) → words ≡ front ++ ws → own ≡ length front → AllFit ps (map kind_of ws)
      → OfNames (λ name. class_in (classes_of text words) name ≡ operation_class (spelled_of text words name)) (events_from own ps ns)
  classes_told ws front own [] ns all at fit = tt
  classes_told ws front own (p ∷ ps) [] all at fit = tt
  classes_told [] front own (p ∷ ps) (n ∷ ns) all at fit = absurd fit
  classes_told (w ∷ ws) front own (p ∷ ps) (n ∷ ns) all at fit = (λ is. here_is is, classes_told ws (front ++ w ∷ []) (own + 1) ps ns (all ∙ sym (append_assoc front (w ∷ []) ws)) next fit.1)
    where
      next : own + 1 ≡ length (front ++ w ∷ [])
      next = let e : length (front ++ w ∷ []) ≡ length front + 1 = length-append front (w ∷ []) in omega (arith, e, at)

      here_is : p ≡ places.OpName → class_in (classes_of text words) (if is_own p then own else n) ≡ operation_class (spelled_of text words (if is_own p then own else n))
      here_is is =
          let named : (if is_own p then own else n) ≡ length front = ap (λ (q : Place). if is_own q then own else n) is ∙ at in
          let string : is_text w.kind ≡ true = name_text w.kind (subst (λ (q : Place). fits_at q w.kind ≡ true) is fit.0) in
          ap (class_in (classes_of text words)) named
          ∙ ap (λ ws. class_in (classes_of text ws) (length front)) all ∙ class_here text front w ws string ∙ ap (λ ws. operation_class (spelled_of text ws (length front))) (sym all)
          ∙ ap (λ m. operation_class (spelled_of text words m)) (sym named)

pub read_is_registered : ReadIsRegistered
read_is_registered text A reads =
    let (r, looked, no_refusal) = reads.unrefused in
    let (s, seen, e) = reads.denotes in
    let none : None ≡ refusal_of text false s = no_refusal ∙ ap (refusal_of text false) (seen_once text r s looked seen) in
    let ended : end_seen s ≡ None = unrefused text false s none in
    let class : ℕ → Class = class_in (classes_of text s.words) in
    let es : List Event = events_of s.places (names_of text s.words) in
    let form : Reads generic start s.places (map kind_of s.words) = form_found seen.form (is_whole s.refusal s.whole (length s.places) ended) in
    let counted : length s.places ≡ length s.words = reads_length form ∙ kinds_length s.words in
    let many : length (names_of text s.words) ≡ length s.places = names_length text s.words 0 s.words ∙ sym counted in
    let many_events : length es ≡ length s.words = events_length 0 s.places (names_of text s.words) many ∙ counted in
    let whole : events_seen text s ≡ es = ap (λ o. before o es) ended in
    let all : NothingIn (others text false s) = nothing_seen text false s none in
    let third : head (tail (tail (others text false s))) ≡ None = head_nothing (tail (tail (others text false s))) (tail_nothing (tail (others text false s)) (tail_nothing (others text false s) all)) in
    let known : first_unknown class false es ≡ None = not_found s.words found_kinds.UnknownOperation (first_unknown class false es) (λ n f. let less : n < length es = first_below _ _ _ es n f in omega (arith, less, many_events))
    (sym (ap (λ xs. at_byte s.words (found_at found_kinds.UnknownOperation (first_unknown class false xs))) whole) ∙ third) in
    ap (λ (m : ModuleTree). list_all (op_passes is_registered) (plain_module m).funcs) e
    ∙ names_are_kept (spelling_of text s.words) (wording_of text s.words) class es is_registered
    (both (λ name. class_in (classes_of text s.words) name ≡ operation_class (spelled_of text s.words name)) (λ name. is_unknown (class_in (classes_of text s.words) name) ≡ false) (λ name. is_registered (spelled_of text s.words name) ≡ true) es
    (λ name c u. ap (λ k. not (is_unknown k)) (sym c) ∙ ap not u)
    (classes_told text s.words s.words [] 0 s.places (names_of text s.words) refl refl (all_fit form)) (known_events class es known))
