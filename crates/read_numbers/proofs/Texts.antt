-- The events of a text that nothing refuses.
use Rattle.std.proofs.Common.{◌≡◌, ℕ, zero, suc, ◌+◌, ◌<◌, Bool, true, false, List, [], ◌∷◌, ◌++◌, map, length, get_or, Option, Some, None, refl, sym, ap, ◌∙◌, subst, arith, append_assoc, length-append}
use Rattle.std.specs.Prelude.{codes, is_some, slice_get, ◌||◌, if◌then◌else◌}
use Rattle.std.specs.Str.{bytes_eq}
use Rattle.std.specs.List.{list_all}
use Rattle.line_grammar.specs.Grammar.{Reads, done, takes, opens, leaves}
use Rattle.text_grammar.specs.declared.kinds.Kind.{Kind}
use Rattle.text_grammar.specs.declared.kinds.Kind.TheVariants as kinds
use Rattle.text_grammar.specs.declared.places.Place.{Place}
use Rattle.text_grammar.specs.declared.places.Place.TheVariants as places
use Rattle.text_grammar.specs.declared.words.Word.{Word}
use Rattle.text_grammar.specs.Places.{fits_at}
use Rattle.text_grammar.specs.Steps.{kind_of}
use Rattle.text_grammar.specs.Table.{Wanted, generic}
use Rattle.text_grammar.specs.Text.{start}
use Rattle.text_grammar.proofs.ReadLemmas.{form_found}
use Rattle.plain_tree.specs.Ops.{plain_module}
use Rattle.text_events.specs.declared.event.Event.{Event}
use Rattle.text_events.specs.declared.look.Refusal.{Refusal}
use Rattle.text_events.specs.Looking.{end_of}
use Rattle.text_events.specs.Names.{names_from, names_of}
use Rattle.text_events.specs.Source.{events_from, events_of, is_own, spelled_of, spelled_or}
use Rattle.text_events.specs.Spelling.{spelled}
use Rattle.text_scopes.specs.declared.bodies.Class.{Class}
use Rattle.text_scopes.specs.declared.bodies.Class.TheVariants.{Module, Function, Known, Unknown}
use Rattle.text_scopes.specs.Bodies.{class_in, is_module}
use Rattle.text_kinds.specs.declared.found.Found.{Found}
use Rattle.text_kinds.specs.declared.found.Kind as found
use Rattle.text_kinds.specs.declared.found.Kind.TheVariants as found_kinds
use Rattle.text_kinds.specs.Kinds.{IsLeastOf, NothingIn, least_of, or_uses}
use Rattle.text_kinds.specs.Plain.{found_at}
use Rattle.text_kinds.specs.Shapes.{first_misplaced, refused_module}
use Rattle.text_kinds.proofs.LeastLemmas.{finds_least}
use Rattle.op_catalog.specs.Table.{place_of}
use Rattle.text_refusals.specs.Classes.{classes_of, is_text, operation_class, word_class}
use Rattle.text_refusals.specs.Refusing.{IsSeen, Seen, at_byte, at_word, before, end_seen, events_seen, others, refusal_of, uses}
use Rattle.text_refusals.specs.Spelling.{spelling_of}
use Rattle.text_refusals.proofs.SeenLemmas.{unrefused}
use Rattle.event_trees.specs.Wording.{wording_of}
use Rattle.event_trees.specs.Modules.{denoted}
use Rattle.event_trees.specs.Roles.{numbers_at, terms_at}
use Rattle.read_states.specs.Numbering.{is_numbered, none_counted}
use Rattle.read_states.specs.States.{NamesTold}
use Rattle.read_numbers.proofs.Bounds.{first_below, module_below}
use Rattle.read_numbers.proofs.Events.{events_numbered}

-- Kinds that are not found

no_other : (o p : Option Found) → None ≡ or_uses o p → o ≡ None
no_other None p h = refl
no_other (Some f) p h = absurd cc

nothing_in : (os : List (Option Found)) (r : Option Found) → r ≡ None → IsLeastOf os r → NothingIn os
nothing_in os None is h = h
nothing_in os (Some f) is h = absurd cc

abbrev head : List (Option Found) → Option Found
head [] = None
head (o ∷ os) = o

abbrev tail : List (Option Found) → List (Option Found)
tail [] = []
tail (o ∷ os) = os

head_nothing : (os : List (Option Found)) → NothingIn os → head os ≡ None
head_nothing [] h = refl
head_nothing (None ∷ os) h = refl
head_nothing (Some f ∷ os) h = absurd h

tail_nothing : (os : List (Option Found)) → NothingIn os → NothingIn (tail os)
tail_nothing [] h = tt
tail_nothing (None ∷ os) h = h
tail_nothing (Some f ∷ os) h = absurd h

has_word : (ws : List Word) (n : ℕ) → n < length ws → slice_get ws n ≡ None → ⊥
has_word [] n less e = absurd (omega (arith, less))
has_word (w ∷ ws) zero less e = cc
has_word (w ∷ ws) (suc n) less e = has_word ws n (omega (arith, less)) e

no_word : (kind : found.Kind) (o : Option Word) → at_word kind o ≡ None → o ≡ None
no_word kind None h = refl
no_word kind (Some w) h = absurd cc

-- what is found at no byte, though there is a word at each place where it may be found, is not found
not_found : (words : List Word) (kind : found.Kind) (o : Option ℕ) → ((n : ℕ) → o ≡ Some n → n < length words) → at_byte words (found_at kind o) ≡ None → o ≡ None
not_found words kind None below h = refl
not_found words kind (Some n) below h = absurd (has_word words n (below n refl) (no_word kind (slice_get words n) h))

nothing_seen : (text : List ℕ) (allowed : Bool) (s : Seen) → None ≡ refusal_of text allowed s → NothingIn (others text allowed s)
nothing_seen text allowed s none = nothing_in (others text allowed s) (least_of (others text allowed s)) (no_other (least_of (others text allowed s)) (least_of (uses text s)) none) (finds_least (others text allowed s))

-- The names of operations

op_class : (spelt : List ℕ) → is_module (operation_class spelt) ≡ bytes_eq spelt (codes "builtin.module")
unfolding operation_class
op_class spelt = by_case (bytes_eq spelt (codes "builtin.module")) (bytes_eq spelt (codes "func.func") || bytes_eq spelt (codes "llvm.func")) (is_some (place_of spelt))
  where
    by_case : (a b c : Bool) → is_module (if a then Module else if b then Function else if c then Known else Unknown) ≡ a
    by_case true b c = refl
    by_case false true c = refl
    by_case false false true = refl
    by_case false false false = refl

-- each kind fits its place
abbrev AllFit : List Place → List Kind → Type 0
AllFit [] ks = Unit {0}
AllFit (p ∷ ps) [] = ⊥
AllFit (p ∷ ps) (k ∷ ks) = (fits_at p k ≡ true) × AllFit ps ks

all_fit : {wanted : List Wanted} {ps : List Place} {ks : List Kind} → Reads generic wanted ps ks → AllFit ps ks
all_fit done = tt
all_fit (takes p k f more) = (f, all_fit more)
all_fit (opens n line k has f more) = (f, all_fit more)
all_fit (leaves n e more) = all_fit more

reads_length : {wanted : List Wanted} {ps : List Place} {ks : List Kind} → Reads generic wanted ps ks → length ps ≡ length ks
reads_length done = refl
reads_length (takes p k f more) = ap suc (reads_length more)
reads_length (opens n line k has f more) = ap suc (reads_length more)
reads_length (leaves n e more) = reads_length more

name_text : (k : Kind) → fits_at places.OpName k ≡ true → is_text k ≡ true
name_text kinds.Text h = refl
name_text _ h = h

in_list : {X : Type 0} (xs : List X) (y : X) (ys : List X) (d : X) → get_or (xs ++ y ∷ ys) (length xs) d ≡ y
in_list [] y ys d = refl
in_list (x ∷ xs) y ys d = in_list xs y ys d

in_slice : {X : Type 0} (xs : List X) (y : X) (ys : List X) → slice_get (xs ++ y ∷ ys) (length xs) ≡ Some y
in_slice [] y ys = refl
in_slice (x ∷ xs) y ys = in_slice xs y ys

classes_length : (text : List ℕ) (ws : List Word) → length (map (word_class text) ws) ≡ length ws
classes_length text [] = refl
classes_length text (w ∷ ws) = ap suc (classes_length text ws)

-- the class of a string among the words
class_here : (text : List ℕ) (front : List Word) (w : Word) (behind : List Word) → is_text w.kind ≡ true
    → class_in (classes_of text (front ++ w ∷ behind)) (length front) ≡ operation_class (spelled_of text (front ++ w ∷ behind) (length front))
class_here text front w behind is =
    ap (λ cs. get_or cs (length front) Unknown) (maps front)
    ∙ ap (λ n. get_or (map (word_class text) front ++ word_class text w ∷ map (word_class text) behind) n Unknown) (sym (classes_length text front))
    ∙ in_list (map (word_class text) front) (word_class text w) (map (word_class text) behind) Unknown
    ∙ ap (λ b. if b then operation_class (spelled text w) else Unknown) is
    ∙ ap (λ o. operation_class (spelled_or text o)) (sym (in_slice front w behind))
  where
    maps : (xs : List Word) → map (word_class text) (xs ++ w ∷ behind) ≡ map (word_class text) xs ++ word_class text w ∷ map (word_class text) behind
    maps [] = refl
    maps (x ∷ xs) = ap (λ cs. word_class text x ∷ cs) (maps xs)

module _ (text : List ℕ) (words : List Word) (numbers : List ℕ) where
  abbrev Told : List Event → Type 0
  Told es = NamesTold (wording_of text words) (class_in (classes_of text words)) numbers es

  names_told : (ws before : List Word) (own : ℕ) (ps : List Place) (ns : List ℕ) → words ≡ before ++ ws → own ≡ length before → AllFit ps (map kind_of ws) → Told (events_from own ps ns)
  names_told ws before own [] ns all at fit = tt
  names_told ws before own (p ∷ ps) [] all at fit = tt
  names_told [] before own (p ∷ ps) (n ∷ ns) all at fit = absurd fit
  names_told (w ∷ ws) before own (p ∷ ps) (n ∷ ns) all at fit = (λ is. here_is is, names_told ws (before ++ w ∷ []) (own + 1) ps ns (all ∙ sym (append_assoc before (w ∷ []) ws)) next fit.1)
    where
      next : own + 1 ≡ length (before ++ w ∷ [])
      next = let e : length (before ++ w ∷ []) ≡ length before + 1 = length-append before (w ∷ []) in omega (arith, e, at)

      here_is : p ≡ places.OpName → is_module (class_in (classes_of text words) (if is_own p then own else n)) ≡ bytes_eq (spelled_of text words (if is_own p then own else n)) (codes "builtin.module")
      here_is is =
          let named : (if is_own p then own else n) ≡ length before = ap (λ (q : Place). if is_own q then own else n) is ∙ at in
          let string : is_text w.kind ≡ true = name_text w.kind (subst (λ (q : Place). fits_at q w.kind ≡ true) is fit.0) in
          let class : class_in (classes_of text words) (length before) ≡ operation_class (spelled_of text words (length before)) =
          ap (λ ws. class_in (classes_of text ws) (length before)) all ∙ class_here text before w ws string ∙ ap (λ ws. operation_class (spelled_of text ws (length before))) (sym all) in
          ap (λ m. is_module (class_in (classes_of text words) m)) named ∙ ap is_module class ∙ op_class (spelled_of text words (length before))
          ∙ ap (λ m. bytes_eq (spelled_of text words m) (codes "builtin.module")) (sym named)

-- The events

names_length : (text : List ℕ) (all : List Word) (i : ℕ) (ws : List Word) → length (names_from text all i ws) ≡ length ws
names_length text all i [] = refl
names_length text all i (w ∷ ws) = ap suc (names_length text all (i + 1) ws)

kinds_length : (ws : List Word) → length (map kind_of ws) ≡ length ws
kinds_length [] = refl
kinds_length (w ∷ ws) = ap suc (kinds_length ws)

places_kept : (own : ℕ) (ps : List Place) (ns : List ℕ) → length ns ≡ length ps → map (λ (e : Event). e.place) (events_from own ps ns) ≡ ps
places_kept own [] ns h = refl
places_kept own (p ∷ ps) [] h = absurd (omega (arith, h))
places_kept own (p ∷ ps) (n ∷ ns) h = ap (λ xs. p ∷ xs) (places_kept (own + 1) ps ns (omega (arith, h)))

events_length : (own : ℕ) (ps : List Place) (ns : List ℕ) → length ns ≡ length ps → length (events_from own ps ns) ≡ length ps
events_length own [] ns h = refl
events_length own (p ∷ ps) [] h = absurd (omega (arith, h))
events_length own (p ∷ ps) (n ∷ ns) h = ap suc (events_length (own + 1) ps ns (omega (arith, h)))

is_whole : (refusal : Option Refusal) (whole : Bool) (count : ℕ) → end_of refusal whole count ≡ None → whole ≡ true
is_whole refusal true count h = refl
is_whole None false count h = absurd cc
is_whole (Some r) false count h = absurd cc

-- of a text that nothing refuses each function is numbered in order
pub seen_numbered : (text : List ℕ) (allowed : Bool) (s : Seen) → IsSeen text s → None ≡ refusal_of text allowed s
    → list_all (is_numbered none_counted) (plain_module (denoted (spelling_of text s.words) (wording_of text s.words) (class_in (classes_of text s.words)) (events_of s.places (names_of text s.words)))).funcs ≡ true
seen_numbered text allowed s seen none =
    let ended : end_seen s ≡ None = unrefused text allowed s none in
    let class : ℕ → Class = class_in (classes_of text s.words) in
    let es : List Event = events_of s.places (names_of text s.words) in
    let reads : Reads generic start s.places (map kind_of s.words) = form_found seen.form (is_whole s.refusal s.whole (length s.places) ended) in
    let counted : length s.places ≡ length s.words = reads_length reads ∙ kinds_length s.words in
    let many : length (names_of text s.words) ≡ length s.places = names_length text s.words 0 s.words ∙ sym counted in
    let many_events : length es ≡ length s.words = events_length 0 s.places (names_of text s.words) many ∙ counted in
    let whole : events_seen text s ≡ es = ap (λ o. before o es) ended in
    let nothing : NothingIn (others text allowed s) = nothing_seen text allowed s none in
    let one : head (others text allowed s) ≡ None = head_nothing (others text allowed s) nothing in
    let two : head (tail (others text allowed s)) ≡ None = head_nothing (tail (others text allowed s)) (tail_nothing (others text allowed s) nothing) in
    let placed : first_misplaced class es ≡ None = not_found s.words found_kinds.ModuleShape (first_misplaced class es) (λ n e. let less : n < length es = first_below _ _ _ es n e in omega (arith, less, many_events)) (sym (ap (λ xs. at_byte s.words (found_at found_kinds.ModuleShape (first_misplaced class xs))) whole) ∙ one) in
    let formed : refused_module class es ≡ None = not_found s.words found_kinds.ModuleShape (refused_module class es) (λ n e. let less : n < length es = module_below class es n e in omega (arith, less, many_events)) (sym (ap (λ xs. at_byte s.words (found_at found_kinds.ModuleShape (refused_module class xs))) whole) ∙ two) in
    events_numbered (spelling_of text s.words) (wording_of text s.words) class es (map kind_of s.words)
    (subst (λ (ps : List Place). Reads generic start ps (map kind_of s.words)) (sym (places_kept 0 s.places (names_of text s.words) many)) reads)
    placed formed (names_told text s.words (numbers_at (wording_of text s.words) class es (terms_at (spelling_of text s.words) es)) s.words [] 0 s.places (names_of text s.words) refl refl (all_fit reads))
