-- The printed text of a module denotes it.
use Rattle.std.proofs.Common.{◌≡◌, ℕ, true, List, [], map, None, refl, sym, ap, ◌∙◌, subst}
use Rattle.std.specs.Prelude.{codes}
use Rattle.line_grammar.specs.Machine.{run}
use Rattle.text_grammar.specs.Table.{generic}
use Rattle.text_grammar.specs.Text.{start}
use Rattle.text_grammar.specs.Steps.{kind_of}
use Rattle.text_grammar.proofs.OnceLemmas.{cut_once}
use Rattle.plain_tree.specs.Ops.{PlainModule, plain_module}
use Rattle.text_events.specs.Names.{names_of}
use Rattle.text_events.specs.Source.{events_of}
use Rattle.text_scopes.specs.Bodies.{class_in, is_module}
use Rattle.event_trees.specs.Wording.{wording_of}
use Rattle.event_trees.specs.Modules.{denoted}
use Rattle.text_refusals.specs.Classes.{classes_of, operation_class}
use Rattle.text_refusals.specs.Spelling.{spelling_of}
use Rattle.tree_reading.proofs.SeenSome.{SomeSeen, seen_some}
use Rattle.printed_modules.specs.ModuleWords.{is_known, module_words, places_of}
use Rattle.printed_modules.proofs.ModuleLemmas.{modules_are_cut, modules_are_read, text_of_modules}
use Rattle.printed_terms.specs.Told.{Told}
use Rattle.printed_events.proofs.EventLemmas.{words_are_told}
use Rattle.printed_trees.specs.Laws.{is_settled_module}
use Rattle.printed_trees.proofs.ModuleTrees.{modules_denote}
use Rattle.settled_reading.proofs.Modules.{read_is_settled}
use Rattle.spelled_reading.specs.Bytes.{is_module_in_bytes}
use Rattle.spelled_reading.proofs.Modules.{read_is_in_bytes}
use Rattle.spelled_reading.proofs.WordBytes.{words_are_in_bytes}
use Rattle.round_trip.specs.Laws.{PrintedTextDenotes, ReadsInBytes, ReadsSettled, ScopedTextDenotes, class_of_module, events_of_module, text_of_module, words_of_module}
use Rattle.scoped_trees.proofs.Modules.{uses_are_served}
use Rattle.round_trip.proofs.ClassLemmas.{all_fit, classes_from}
use Rattle.round_trip.proofs.NameLemmas.{names_agree}

-- the events of the text are told
told_text : (m : PlainModule) → is_known m ≡ true → Told (spelling_of (text_of_module m) (words_of_module m)) (wording_of (text_of_module m) (words_of_module m)) (module_words m) (events_of_module m)
told_text m know =
    subst (λ (text : List ℕ). Told (spelling_of text (words_of_module m)) (wording_of text (words_of_module m)) (module_words m) (events_of (places_of m) (names_of text (words_of_module m))))
    (sym (text_of_modules m know)) (words_are_told (module_words m) (codes "\n"))

module_class : is_module (operation_class (codes "builtin.module")) ≡ true
unfolding operation_class
module_class = refl

pub text_denotes : PrintedTextDenotes
text_denotes m know settled numbered classed serve labels =
    let some : SomeSeen (text_of_module m) = seen_some (text_of_module m) in
    let words : some.seen.words ≡ words_of_module m = (cut_once (text_of_module m) some.seen.words (words_of_module m) some.seen.fault None some.is.words (modules_are_cut m know)).0 in
    let read = modules_are_read m know in
    let places : some.seen.places ≡ places_of m = sym some.is.form.taken ∙ ap (λ ws. (run generic start (map kind_of ws)).0) words ∙ read.1.taken in (
      some.seen,
      some.is,
      sym (
          ap (λ ws. denoted (spelling_of (text_of_module m) ws) (wording_of (text_of_module m) ws) (class_in (classes_of (text_of_module m) ws)) (events_of some.seen.places (names_of (text_of_module m) ws))) words
          ∙ ap (λ ps. denoted (spelling_of (text_of_module m) (words_of_module m)) (wording_of (text_of_module m) (words_of_module m)) (class_of_module m) (events_of ps (names_of (text_of_module m) (words_of_module m)))) places
          ∙ modules_denote (spelling_of (text_of_module m) (words_of_module m)) (wording_of (text_of_module m) (words_of_module m)) operation_class (class_of_module m) m (events_of_module m) (told_text m know)
          (λ name front rest e. classes_from (text_of_module m) (words_of_module m) (module_words m) [] 0 0 name front rest refl refl (all_fit read.0) e)
          module_class classed know settled numbered serve labels),
    )

pub scoped_denotes : ScopedTextDenotes
scoped_denotes m know settled numbered classed scoped =
    let read = modules_are_read m know in
    let served = uses_are_served (spelling_of (text_of_module m) (words_of_module m)) (wording_of (text_of_module m) (words_of_module m)) operation_class (class_of_module m) m (events_of_module m) (told_text m know)
    (λ name front rest e. classes_from (text_of_module m) (words_of_module m) (module_words m) [] 0 0 name front rest refl refl (all_fit read.0) e)
    module_class classed (names_agree (text_of_module m) (module_words m) (all_fit read.0)) know numbered scoped in
    text_denotes m know settled numbered classed served.0 served.1

pub reads_settled : ReadsSettled
reads_settled text allowed A reads =
    let (s, seen, e) = reads.denotes in
    ap (λ B. is_settled_module (plain_module B)) e ∙ read_is_settled (spelling_of text s.words) (wording_of text s.words) (class_in (classes_of text s.words)) (events_of s.places (names_of text s.words))

pub reads_in_bytes : ReadsInBytes
reads_in_bytes text allowed A bytes reads =
    let (s, seen, e) = reads.denotes in
    ap (λ B. is_module_in_bytes (plain_module B)) e
    ∙ read_is_in_bytes (spelling_of text s.words) (wording_of text s.words) (class_in (classes_of text s.words)) (events_of s.places (names_of text s.words)) (λ name. words_are_in_bytes text s.words name bytes)
