-- The events of a text that nothing refuses.
use Rattle.std.proofs.Common.{◌≡◌, ℕ, zero, suc, ◌+◌, ◌<◌, Bool, true, false, List, [], ◌∷◌, ◌++◌, map, length, Option, Some, None, refl, sym, ap, ◌∙◌, arith, append_assoc, length-append, true≢false}
use Rattle.std.specs.Prelude.{slice_get, if◌then◌else◌}
use Rattle.mlir_lex.proofs.Lengths.{eqb-is}
use Rattle.line_grammar.specs.Grammar.{Reads}
use Rattle.line_grammar.specs.Language.{events, one_later}
use Rattle.text_grammar.specs.declared.kinds.Kind.{Kind}
use Rattle.text_grammar.specs.declared.kinds.Kind.TheVariants as kinds
use Rattle.text_grammar.specs.declared.places.Place.{Place}
use Rattle.text_grammar.specs.declared.places.Place.TheVariants as places
use Rattle.text_grammar.specs.declared.words.Word.{Word}
use Rattle.text_grammar.specs.Places.{fits_at}
use Rattle.text_grammar.specs.Steps.{kind_of}
use Rattle.text_grammar.specs.Table.{generic}
use Rattle.text_grammar.specs.Text.{start}
use Rattle.text_grammar.proofs.ReadLemmas.{form_found}
use Rattle.term_table.specs.Terms.{nothing}
use Rattle.tree_model.specs.declared.op_tree.ModuleTree.{ModuleTree}
use Rattle.plain_tree.specs.Ops.{plain_module}
use Rattle.text_events.specs.declared.event.Event.{Event}
use Rattle.text_events.specs.declared.alias.AliasClass.{AliasClass}
use Rattle.text_events.specs.declared.alias.AliasClass.TheVariants.{Integer}
use Rattle.text_events.specs.declared.look.Refusal.{Refusal}
use Rattle.text_events.specs.Language.{named, nothing_before}
use Rattle.text_events.specs.Looking.{end_of, first_refusal}
use Rattle.text_events.specs.Names.{name_of, names_from, names_of}
use Rattle.text_events.specs.Source.{events_from, events_of, is_own, spelled_of}
use Rattle.text_types.specs.Spelling.{Spelling}
use Rattle.text_types.specs.Aliases.{aliases_of}
use Rattle.text_types.specs.Items.{Aliases}
use Rattle.text_types.specs.Marks.{marked}
use Rattle.text_scopes.specs.declared.bodies.Body.{Body}
use Rattle.text_scopes.specs.declared.bodies.Class.{Class}
use Rattle.text_scopes.specs.declared.tables.Names.{Names}
use Rattle.text_scopes.specs.declared.tables.Names.TheVariants as names
use Rattle.text_scopes.specs.Bodies.{behind, class_in, outside}
use Rattle.text_scopes.specs.Seen.{turns}
use Rattle.text_scopes.specs.Tables.{first_redefined, steps_of, turns_of}
use Rattle.type_kinds.specs.First.{first_in}
use Rattle.type_kinds.specs.Ranges.{first_out, is_out, pass_listed}
use Rattle.text_kinds.specs.declared.found.Found.{Found}
use Rattle.text_kinds.specs.declared.found.Kind.TheVariants as found_kinds
use Rattle.text_kinds.specs.Kinds.{NothingIn}
use Rattle.text_kinds.specs.Plain.{found_at}
use Rattle.text_refusals.specs.Classes.{classes_of}
use Rattle.text_refusals.specs.Refusing.{IsSeen, Seen, at_byte, before, end_seen, events_seen, others, refusal_of}
use Rattle.text_refusals.specs.Spelling.{spelling_of}
use Rattle.text_refusals.proofs.SeenLemmas.{seen_once, unrefused}
use Rattle.event_trees.specs.Wording.{wording_of}
use Rattle.event_trees.specs.Modules.{denoted}
use Rattle.printed_events.proofs.EventLemmas.{name_spells}
use Rattle.read_numbers.proofs.Bounds.{first_below}
use Rattle.read_scopes.proofs.Texts.{AllFit, all_fit, events_length, head, head_nothing, is_whole, kinds_length, names_length, not_found, nothing_seen, reads_length, tail, tail_nothing}
use Rattle.read_terms.specs.Fitting.{is_fit_module}
use Rattle.read_terms.specs.Laws.{ReadIsFit}
use Rattle.read_terms.proofs.Steps.{Runs, State}
use Rattle.read_terms.proofs.WordFacts.{AllCut, Cut, all_cut, hash_spelled, is_hash_name, is_integer_word, is_type_name, is_width_word, starts, type_spelled, word_sized, word_wide}
use Rattle.read_terms.proofs.Known.{no_defs}
use Rattle.read_terms.proofs.Runs.{AllSpelt, Spelt, runs}
use Rattle.read_terms.proofs.Readings.{aliases_fine, terms_fine}
use Rattle.read_terms.proofs.Modules.{events_fit}

-- Words and their kinds

kind_integer : (k : Kind) → fits_at places.IntegerWord k ≡ true → is_integer_word k ≡ true
kind_integer kinds.WordWidth h = refl
kind_integer kinds.WordInteger h = refl
kind_integer _ h = h

kind_element : (k : Kind) → fits_at places.ElementWord k ≡ true → is_integer_word k ≡ true
kind_element kinds.WordWidth h = refl
kind_element kinds.WordInteger h = refl
kind_element _ h = h

kind_width : (k : Kind) → fits_at places.NumbersWidth k ≡ true → is_width_word k ≡ true
kind_width kinds.WordWidth h = refl
kind_width _ h = h

kind_type : (k : Kind) → fits_at places.TypeAliasName k ≡ true → is_type_name k ≡ true
kind_type kinds.TypeName h = refl
kind_type _ h = h

kind_hash : (k : Kind) → fits_at places.AttrAliasName k ≡ true → is_hash_name k ≡ true
kind_hash kinds.HashName h = refl
kind_hash kinds.HashNumber h = refl
kind_hash _ h = h

in_slice : {X : Type 0} (xs : List X) (y : X) (ys : List X) → slice_get (xs ++ y ∷ ys) (length xs) ≡ Some y
in_slice [] y ys = refl
in_slice (x ∷ xs) y ys = in_slice xs y ys

two_starts : (xs : List ℕ) → starts 33 xs ≡ true → starts 35 xs ≡ true → ⊥
two_starts [] h k = true≢false (sym h)
two_starts (x ∷ xs) h k = absurd (not_both (eqb-is x 33 h) (eqb-is x 35 k))
  where
    not_both : x ≡ 33 → x ≡ 35 → ⊥
    not_both e f = omega (arith, e, f)

module _ (text : List ℕ) (words : List Word) where
  abbrev bang : ℕ → Type 0
  bang m = starts 33 (spelled_of text words m) ≡ true

  abbrev hash : ℕ → Type 0
  hash m = starts 35 (spelled_of text words m) ≡ true

  spelt_here : (p : Place) (own : ℕ) (w : Word) → slice_get words own ≡ Some w → Cut text w → fits_at p w.kind ≡ true
      → Spelt (spelling_of text words) bang hash p (if is_own p then own else name_of text words own w)
  spelt_here places.IntegerWord own w there c f = word_sized text words own w there c (kind_integer w.kind f)
  spelt_here places.ElementWord own w there c f = word_sized text words own w there c (kind_element w.kind f)
  spelt_here places.NumbersWidth own w there c f = word_wide text words own w there c (kind_width w.kind f)
  spelt_here places.TypeAliasName own w there c f = ap (starts 33) (name_spells text words own w there) ∙ type_spelled text w c (kind_type w.kind f)
  spelt_here places.AttrAliasName own w there c f = ap (starts 35) (name_spells text words own w there) ∙ hash_spelled text w c (kind_hash w.kind f)
  spelt_here _ own w there c f = tt

  all_spelt : (ws front : List Word) (own : ℕ) (ps : List Place) → words ≡ front ++ ws → own ≡ length front → AllFit ps (map kind_of ws) → AllCut text ws
      → AllSpelt (spelling_of text words) bang hash (events_from own ps (names_from text words own ws))
  all_spelt ws front own [] all place fit c = tt
  all_spelt [] front own (p ∷ ps) all place fit c = absurd fit
  all_spelt (w ∷ ws) front own (p ∷ ps) all place fit c =
      let there : slice_get words own ≡ Some w = ap (slice_get words) place ∙ ap (λ xs. slice_get xs (length front)) all ∙ in_slice front w ws in
      let next : own + 1 ≡ length (front ++ w ∷ []) = let e : length (front ++ w ∷ []) ≡ length front + 1 = length-append front (w ∷ []) in omega (arith, e, place) in
      (spelt_here p own w there c.0 fit.0, all_spelt ws (front ++ w ∷ []) (own + 1) ps (all ∙ sym (append_assoc front (w ∷ []) ws)) next fit.1 c.1)

-- Nothing is found

no_refusal : (r : Option Refusal) (whole : Bool) (count : ℕ) → end_of r whole count ≡ None → r ≡ None
no_refusal None whole count h = refl
no_refusal (Some r) whole count h = absurd cc

later_below : (o : Option ℕ) (n m : ℕ) → ((k : ℕ) → o ≡ Some k → k < m) → one_later o ≡ Some n → n < suc m
later_below None n m f h = absurd (none_is n h)
  where
    none_is : (n : ℕ) → ◌≡◌ {A = Option ℕ} None (Some n) → ⊥
    none_is n h = cc
later_below (Some k) n m f h = let less : k < m = f k refl in let e : suc k ≡ n = same (suc k) n h in omega (arith, less, e)
  where
    same : (a b : ℕ) → ◌≡◌ {A = Option ℕ} (Some a) (Some b) → a ≡ b
    same a b e = cc

-- the first place is one of the events
in_below : {S : Type 0} (step : S → Event → List Event → S) (stands : S → Event → List Event → Bool) (s : S) (es : List Event) (n : ℕ) → first_in step stands s es ≡ Some n → n < length es
in_below step stands s [] n h = absurd (none_is n h)
  where
    none_is : (n : ℕ) → ◌≡◌ {A = Option ℕ} None (Some n) → ⊥
    none_is n h = cc
in_below step stands s (e ∷ es) n h = by_test (stands s e es) h (λ m f. in_below step stands (step s e es) es m f)
  where
    same : (a b : ℕ) → ◌≡◌ {A = Option ℕ} (Some a) (Some b) → a ≡ b
    same a b e = cc

    by_test : (b : Bool) → ◌≡◌ {A = Option ℕ} (elim b [ true ↦ Some 0 | false ↦ one_later (first_in step stands (step s e es) es) ]) (Some n)
        → ((m : ℕ) → first_in step stands (step s e es) es ≡ Some m → m < length es) → n < suc (length es)
    by_test true k more = let z : 0 ≡ n = same 0 n k in omega (arith, z)
    by_test false k more = later_below (first_in step stands (step s e es) es) n (length es) more k

marked_length : (es : List Event) → length (marked es) ≡ length es
marked_length [] = refl
marked_length (e ∷ es) = ap suc (marked_length es)

turns_length : (ns : Names) (class : ℕ → Class) (b : Body) (es : List Event) → length (turns (steps_of ns class b es) es) ≡ length es
turns_length ns class b [] = refl
turns_length ns class b (e ∷ es) = ap suc (turns_length ns class (behind class b e) es)

abbrev skip : ℕ → List (Option Found) → List (Option Found)
skip zero os = os
skip (suc n) os = skip n (tail os)

skip_nothing : (n : ℕ) (os : List (Option Found)) → NothingIn os → NothingIn (skip n os)
skip_nothing zero os h = h
skip_nothing (suc n) os h = skip_nothing n (tail os) (tail_nothing os h)

none_integer : (m : ℕ) → ◌≡◌ {A = Option AliasClass} None (Some Integer) → ⊥
none_integer m h = cc

-- of a text that nothing refuses types are formed, and numbers fit
pub seen_fits : (text : List ℕ) (allowed : Bool) (s : Seen) → IsSeen text s → None ≡ refusal_of text allowed s
    → is_fit_module (plain_module (denoted (spelling_of text s.words) (wording_of text s.words) (class_in (classes_of text s.words)) (events_of s.places (names_of text s.words)))) ≡ true
seen_fits text allowed s seen none =
    let ended : end_seen s ≡ None = unrefused text allowed s none in
    let class : ℕ → Class = class_in (classes_of text s.words) in
    let words : Spelling = spelling_of text s.words in
    let es : List Event = events_of s.places (names_of text s.words) in
    let final : Aliases = aliases_of (spelling_of text s.words) (marked (events_of s.places (names_of text s.words))) in
    let form : Reads generic start s.places (map kind_of s.words) = form_found seen.form (is_whole s.refusal s.whole (length s.places) ended) in
    let counted : length s.places ≡ length s.words = reads_length form ∙ kinds_length s.words in
    let many : length (names_of text s.words) ≡ length s.places = names_length text s.words 0 s.words ∙ sym counted in
    let many_events : length es ≡ length s.words = events_length 0 s.places (names_of text s.words) many ∙ counted in
    let whole : events_seen text s ≡ es = ap (λ o. before o es) ended in
    let all : NothingIn (others text allowed s) = nothing_seen text allowed s none in
    let sixth : head (skip 5 (others text allowed s)) ≡ None = head_nothing (skip 5 (others text allowed s)) (skip_nothing 5 (others text allowed s) all) in
    let seventh : head (skip 6 (others text allowed s)) ≡ None = head_nothing (skip 6 (others text allowed s)) (skip_nothing 6 (others text allowed s) all) in
    let range : head (skip 13 (others text allowed s)) ≡ None = head_nothing (skip 13 (others text allowed s)) (skip_nothing 13 (others text allowed s) all) in
    let types_once : first_redefined names.TypeAliases class es ≡ None = not_found s.words found_kinds.RedefinedAlias (first_redefined names.TypeAliases class es)
    (λ n e. let less : n < length (turns_of names.TypeAliases class es) = first_below _ _ _ (turns_of names.TypeAliases class es) n e in
    let same : length (turns_of names.TypeAliases class es) ≡ length es = turns_length names.TypeAliases class outside es in omega (arith, less, same, many_events))
    (sym (ap (λ xs. at_byte s.words (found_at found_kinds.RedefinedAlias (first_redefined names.TypeAliases class xs))) whole) ∙ sixth) in
    let attrs_once : first_redefined names.AttrAliases class es ≡ None = not_found s.words found_kinds.RedefinedAlias (first_redefined names.AttrAliases class es)
    (λ n e. let less : n < length (turns_of names.AttrAliases class es) = first_below _ _ _ (turns_of names.AttrAliases class es) n e in
    let same : length (turns_of names.AttrAliases class es) ≡ length es = turns_length names.AttrAliases class outside es in omega (arith, less, same, many_events))
    (sym (ap (λ xs. at_byte s.words (found_at found_kinds.RedefinedAlias (first_redefined names.AttrAliases class xs))) whole) ∙ seventh) in
    let inside : first_out words final (marked es) ≡ None = not_found s.words found_kinds.IntegerRange (first_out words final (marked es))
    (λ n e. let less : n < length (marked es) = in_below (pass_listed words) (is_out words final) (record { width = 64; minus = false }) (marked es) n e in
    let same : length (marked es) ≡ length es = marked_length es in omega (arith, less, same, many_events))
    (sym (ap (λ (xs : List Event). at_byte s.words (found_at found_kinds.IntegerRange (first_out words (aliases_of words (marked xs)) (marked xs)))) whole) ∙ range) in
    let looked : first_refusal nothing_before (events s.places (named s.words (names_of text s.words))) ≡ None = sym seen.refusal ∙ no_refusal s.refusal s.whole (length s.places) ended in
    let spelt : AllSpelt words (bang text s.words) (hash text s.words) es = all_spelt text s.words s.words [] 0 s.places refl refl (all_fit form) (all_cut text s.words s.fault seen.words) in
    let x : State = record { sizes = 0; listed = record { width = 64; minus = false }; env = λ n. nothing; later = λ n. nothing; events = marked es } in
    let run : Runs words final s.places x = runs words (bang text s.words) (hash text s.words) (λ m h k. two_starts (spelled_of text s.words m) h k) final class s.places s.words (names_of text s.words) 0 nothing_before
    (record { width = 64; minus = false }) (λ n. nothing) (λ n. nothing) [] [] outside (sym counted) many (omega arith) (omega arith)
    (record { known = λ m h. absurd (none_integer m h); grows = λ m h. refl; pending = tt; defs = no_defs words (bang text s.words) (hash text s.words) (λ n. nothing) (λ m. refl); final_is = refl })
    spelt looked inside types_once attrs_once in
    events_fit words (wording_of text s.words) class es refl (aliases_fine words final form x run (λ n. refl)) (terms_fine words final form x run)

pub read_is_fit : ReadIsFit
read_is_fit text allowed A reads =
    let (s, seen, none) = reads.unrefused in
    let (t, found, e) = reads.denotes in
    let same : s ≡ t = seen_once text s t seen found in
    ap (λ (m : ModuleTree). is_fit_module (plain_module m)) e ∙ seen_fits text allowed t found (none ∙ ap (refusal_of text allowed) same)
