-- From what the code finds of a text to its module.
use Rattle.std.proofs.Common.{◌≡◌, ℕ, Bool, List, Option, Some, None, Ok, Err, Result, sym, ◌∙◌, ap, subst}
use Rattle.std.specs.Prelude.{IfOk}
use Rattle.tree_model.specs.declared.op_tree.ModuleTree.{ModuleTree}
use Rattle.text_grammar.specs.declared.words.Word.{Word}
use Rattle.text_events.specs.Names.{names_of}
use Rattle.text_events.specs.Source.{events_of}
use Rattle.text_types.specs.Stack.{Stands}
use Rattle.text_scopes.specs.declared.tables.Names.TheVariants as names
use Rattle.text_scopes.specs.Bodies.{class_in}
use Rattle.text_scopes.specs.Tables.{definitions}
use Rattle.text_refusals.specs.Classes.{classes_of}
use Rattle.text_kinds.specs.declared.found.Found.{Found}
use Rattle.text_kinds.specs.declared.found.Kind.{Kind}
use Rattle.text_refusals.specs.declared.findings.Findings.{Findings}
use Rattle.text_refusals.specs.Findings.{AreFindings, Finds}
use Rattle.text_refusals.specs.Refusing.{Seen, Refuses, before, events_seen}
use Rattle.text_refusals.specs.Spelling.{spelling_of}
use Rattle.text_refusals.proofs.SeenLemmas.{unrefused}
use Rattle.event_trees.specs.Roles.{terms_at}
use Rattle.event_trees.specs.Wording.{wording_of}
use Rattle.event_trees.specs.Modules.{denoted}
use Rattle.tree_reading.specs.Reading.{Denotes, Reads, ReadsNot, denoted_by}
use Rattle.tree_reader.specs.Found.{Unrefused}
use Rattle.tree_reading.proofs.ReadingLaws.{never_both, one_module, refused_once}

-- what was found is whole where nothing refuses it
pub events_whole : (text : List ℕ) (allowed : Bool) (s : Seen) (f : Findings) → AreFindings text allowed s f → f.refusal ≡ None → f.events.items ≡ events_of s.places (names_of text s.words)
events_whole text allowed s f h none =
    h.events ∙ ap (λ o. before o (events_of s.places (names_of text s.words))) (unrefused text allowed s (sym none ∙ h.refusal))

same_module : (text : List ℕ) (allowed : Bool) (s : Seen) (f : Findings) → AreFindings text allowed s f → f.refusal ≡ None
    → denoted (spelling_of text f.words.items) (wording_of text f.words.items) (class_in f.classes.items) f.events.items ≡ denoted_by text s
same_module text allowed s f h none =
    ap (λ ws. denoted (spelling_of text ws) (wording_of text ws) (class_in f.classes.items) f.events.items) h.words
    ∙ ap (λ cs. denoted (spelling_of text s.words) (wording_of text s.words) (class_in cs) f.events.items) h.classes
    ∙ ap (denoted (spelling_of text s.words) (wording_of text s.words) (class_in (classes_of text s.words))) (events_whole text allowed s f h none)

pub denotes : {E : Type 0} (text : List ℕ) (f : Findings) (words : List Word) (r : Result ModuleTree E) → Unrefused text f → words ≡ f.words.items
    → IfOk r (λ m. m ≡ denoted (spelling_of text words) (wording_of text words) (class_in f.classes.items) f.events.items) → IfOk r (Denotes text)
denotes text f words (Ok m) (allowed, (s, seen, h), none) w is =
    (s, seen, is ∙ ap (λ ws. denoted (spelling_of text ws) (wording_of text ws) (class_in f.classes.items) f.events.items) w ∙ same_module text allowed s f h none)
denotes text f words (Err e) found w is = tt

-- What the tree is made from

pub begun_stands : (text : List ℕ) (f : Findings) (words : List Word) → Unrefused text f → words ≡ f.words.items
    → Stands f.terms.nodes.keys f.begun.items (terms_at (spelling_of text words) f.events.items)
begun_stands text f words (allowed, (s, seen, h), none) w =
    subst (λ ws. Stands f.terms.nodes.keys f.begun.items (terms_at (spelling_of text ws) f.events.items)) (sym h.words ∙ sym w)
    (subst (λ es. Stands f.terms.nodes.keys f.begun.items (terms_at (spelling_of text s.words) es)) (sym h.events) h.begun)

pub values_stand : (text : List ℕ) (f : Findings) → Unrefused text f → f.values.items ≡ definitions names.Values (class_in f.classes.items) f.events.items
values_stand text f (allowed, (s, seen, h), none) =
    h.values ∙ ap (λ cs. definitions names.Values (class_in cs) (events_seen text s)) (sym h.classes) ∙ ap (definitions names.Values (class_in f.classes.items)) (sym h.events)

pub labels_stand : (text : List ℕ) (f : Findings) → Unrefused text f → f.labels.items ≡ definitions names.Labels (class_in f.classes.items) f.events.items
labels_stand text f (allowed, (s, seen, h), none) =
    h.labels ∙ ap (λ cs. definitions names.Labels (class_in cs) (events_seen text s)) (sym h.classes) ∙ ap (definitions names.Labels (class_in f.classes.items)) (sym h.events)

pub unrefused_so : (text : List ℕ) (allowed : Bool) (f : Findings) → Finds text allowed f → f.refusal ≡ None → Unrefused text f
unrefused_so text allowed f h none = (allowed, h, none)

-- The answers

pub reads : (text : List ℕ) (allow : Bool) (o : Option Found) (m : ModuleTree) → Refuses text allow o → o ≡ None → Denotes text m → Reads text allow m
reads text allow o m h none denotes = record { unrefused = let P : Option Found → Type 0 = Refuses text allow in subst P none h; denotes = denotes }

reads_not : (text : List ℕ) (allow : Bool) (o : Option Found) (found : Found) → Refuses text allow o → o ≡ Some found → ReadsNot text allow found.place found.kind
reads_not text allow o found h some = let P : Option Found → Type 0 = Refuses text allow in subst P some h

pub read_only : (text : List ℕ) (allow : Bool) (o : Option Found) (m : ModuleTree) → Refuses text allow o → o ≡ None → Denotes text m → (A : ModuleTree) → Reads text allow A → A ≡ m
read_only text allow o m h none denotes A a = one_module text allow A m a (reads text allow o m h none denotes)

pub read_never : (text : List ℕ) (allow : Bool) (o : Option Found) (m : ModuleTree) → Refuses text allow o → o ≡ None → Denotes text m → (place : ℕ) (kind : Kind) → ReadsNot text allow place kind → ⊥
read_never text allow o m h none denotes place kind r = never_both text allow m place kind (reads text allow o m h none denotes) r

pub refused_never : (text : List ℕ) (allow : Bool) (o : Option Found) (found : Found) → Refuses text allow o → o ≡ Some found → (A : ModuleTree) → Reads text allow A → ⊥
refused_never text allow o found h some A a = never_both text allow A found.place found.kind a (reads_not text allow o found h some)

pub refused_only : (text : List ℕ) (allow : Bool) (o : Option Found) (found : Found) → Refuses text allow o → o ≡ Some found → (place : ℕ) (kind : Kind) → ReadsNot text allow place kind
    → (place ≡ found.place) × (kind ≡ found.kind)
refused_only text allow o found h some place kind r = refused_once text allow place found.place kind found.kind r (reads_not text allow o found h some)
