-- What a whole run says of the form of words; and a step of the loop over words.
use Rattle.std.proofs.Common.{◌≡◌, ℕ, ◌+◌, ◌<◌, ◌≤◌, Bool, true, false, List, [], ◌∷◌, ◌++◌, length, drop, map, get_or, Option, Some, None, sym, ◌∙◌}
use Rattle.std.proofs.lemmas.List.{drop_all, drop_more}
use Rattle.line_grammar.specs.Grammar.{Grammar, Reads, IsExpected}
use Rattle.line_grammar.specs.Machine.{Outcome, next, run, with_front, whole, ends}
use Rattle.line_grammar.proofs.Sound.{gives_found}
use Rattle.line_grammar.proofs.Theorems.{gives_only, gives_expected}
use Rattle.text_grammar.specs.declared.kinds.Kind.{Kind}
use Rattle.text_grammar.specs.declared.kinds.Kind.TheVariants as kinds
use Rattle.text_grammar.specs.declared.places.Place.{Place}
use Rattle.text_grammar.specs.declared.parts.Part.{Part}
use Rattle.text_grammar.specs.declared.words.Word.{Word}
use Rattle.text_grammar.specs.Table.{Wanted, generic}
use Rattle.text_grammar.specs.Text.{start}
use Rattle.text_grammar.specs.Steps.{Takes, Looked, kind_of}
use Rattle.text_grammar.proofs.Generic.{generic_ll}
use Rattle.text_grammar.proofs.RunLemmas as runs

-- What a whole run says of the form

pub form_found : {words : List Word} {places : List Place} {is_whole : Bool} → Looked places is_whole words → is_whole ≡ true → Reads generic start places (map kind_of words)
form_found {words = words} looked is = rw (← looked.taken) (gives_found generic start (map kind_of words) (looked.is ∙ is))

pub form_refused : {words : List Word} {places : List Place} {is_whole : Bool} → Looked places is_whole words → is_whole ≡ false
    → IsExpected generic start (map kind_of words) (drop (length places) (map kind_of words))
form_refused {words = words} looked is = rw (← looked.taken) (gives_expected generic_ll (map kind_of words) (looked.is ∙ is))

pub form_only : {words : List Word} {places : List Place} {is_whole : Bool} → Looked places is_whole words → (ps : List Place) → Reads generic start ps (map kind_of words)
    → (places ≡ ps) × (is_whole ≡ true)
form_only {words = words} looked ps reads = let only = gives_only generic_ll ps (map kind_of words) reads in (sym looked.taken ∙ only.0, sym looked.is ∙ only.1)

-- The loop over words

abbrev pub nothing : Word
nothing = record { kind = kinds.Value; long = false; start = 0; end = 0 }

pub one_more : (g : Grammar Place Part Kind) (places pushed : List Place) (old new : List Wanted) (words : List Word) (none : Word) (i : ℕ) (o : Option Place) (p : Place)
    (r : Outcome Place Part) → i < length words → o ≡ Some p → Takes o new (next g old (get_or words i none).kind) → pushed ≡ places ++ p ∷ []
    → with_front places (run g old (map kind_of (drop i words))) ≡ r → with_front pushed (run g new (map kind_of (drop (i + 1) words))) ≡ r
one_more g places pushed old new words none i o p r within is takes put h =
    let step : next g old (get_or words i none).kind ≡ Some (p, new) = rw is at takes in
    rw put (runs.goes_on g places old new (get_or words i none).kind (map kind_of (drop (i + 1) words)) p r step (rw (drop_more words i none within) at h))

pub stops : (g : Grammar Place Part Kind) (places : List Place) (old new : List Wanted) (words : List Word) (none : Word) (i : ℕ) (o : Option Place)
    (r : Outcome Place Part) → i < length words → o ≡ None → Takes o new (next g old (get_or words i none).kind)
    → with_front places (run g old (map kind_of (drop i words))) ≡ r → (r.0 ≡ places) × (whole g r ≡ false)
stops g places old new words none i o r within is takes h =
    let step : next g old (get_or words i none).kind ≡ None = rw is at takes in
    runs.stuck g places old (get_or words i none).kind (map kind_of (drop (i + 1) words)) r step (rw (drop_more words i none within) at h)

pub all_read : (g : Grammar Place Part Kind) (places : List Place) (wanted : List Wanted) (words : List Word) (i : ℕ) (r : Outcome Place Part) → length words ≤ i
    → with_front places (run g wanted (map kind_of (drop i words))) ≡ r → (r.0 ≡ places) × (whole g r ≡ ends g wanted)
all_read g places wanted words i r past h = runs.at_end g places wanted r (rw (drop_all i words past) at h)
