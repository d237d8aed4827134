-- From what the code finds of a text to its refusal.
use Rattle.std.proofs.Common.{◌≡◌, ◌<◌, ◌^◌, ℕ, Bool, true, false, List, [], ◌∷◌, ◌++◌, length, map, Option, Some, None, Ok, Err, Result, refl, sym, ◌∙◌, ap, subst}
use Rattle.std.specs.Prelude.{IfOk}
use Rattle.mlir_lex.specs.declared.LexFault.{LexFault}
use Rattle.line_grammar.specs.Language.{events}
use Rattle.line_grammar.specs.Machine.{run, whole}
use Rattle.text_grammar.specs.declared.places.Place.{Place}
use Rattle.text_grammar.specs.declared.words.Word.{Word}
use Rattle.text_grammar.specs.Table.{generic}
use Rattle.text_grammar.specs.Text.{start}
use Rattle.text_grammar.proofs.OnceLemmas.{cut_once}
use Rattle.text_events.specs.declared.look.Refusal.{Refusal}
use Rattle.text_grammar.specs.Steps.{Looked, kind_of}
use Rattle.text_grammar.specs.Words.{AreWords}
use Rattle.text_events.specs.declared.event.Event.{Event}
use Rattle.text_events.specs.Language.{named, nothing_before}
use Rattle.text_events.specs.Looking.{first_refusal, end_of, ending_of, form_ending, IsFound, IsRefused, IsBegun}
use Rattle.text_events.specs.Names.{names_of}
use Rattle.text_events.specs.declared.ending.Ending.{Ending}
use Rattle.term_table.specs.declared.node.Node.{Node}
use Rattle.text_types.specs.Stack.{Stands}
use Rattle.text_scopes.specs.declared.bodies.Class.{Class}
use Rattle.text_scopes.specs.declared.tables.Names.TheVariants as names
use Rattle.text_scopes.specs.Bodies.{class_in}
use Rattle.text_scopes.specs.Tables.{definitions}
use Rattle.text_kinds.specs.declared.found.Found.{Found}
use Rattle.text_kinds.specs.Kinds.{IsLeastOf, NothingIn, least, least_of, or_uses}
use Rattle.text_kinds.proofs.LeastLemmas.{finds_least}
use Rattle.text_kinds.specs.Plain.{plain_kinds}
use Rattle.text_refusals.specs.Classes.{classes_of}
use Rattle.text_refusals.specs.declared.findings.Findings.{Findings}
use Rattle.text_refusals.specs.Findings.{AreFindings, Finds, begun_at}
use Rattle.text_refusals.specs.Spelling.{indexes_of, spelling_of}
use Rattle.text_refusals.specs.Refusing.{Seen, IsSeen, Refuses, refusal_of, at_byte, end_seen, ended, events_seen, others, typed_kinds, used_kinds, uses}

judged : (text : List ℕ) (allowed : Bool) (s : Seen) (classes : List Class) (es : List Event) (plain typed used : List (Option Found)) → classes ≡ classes_of text s.words → es ≡ events_seen text s
    → plain ≡ plain_kinds (class_in classes) allowed es → typed ≡ typed_kinds (spelling_of text s.words) (indexes_of text s.words) (class_in classes) es → used ≡ used_kinds (class_in classes) es
    → least (map (at_byte s.words) (plain ++ typed) ++ ended (ending_of (length text) s.words s.fault s.places s.whole s.refusal) ∷ []) (map (at_byte s.words) used) ≡ refusal_of text allowed s
judged text allowed s classes es plain typed used a b c d e = rw (c, d, e, a, b) refl

pub soonest_is : (words : List Word) (kinds os : List (Option Found)) (end o : Option Found) (used us vs : List (Option Found)) → os ≡ map (at_byte words) kinds ++ end ∷ [] → end ≡ o
    → vs ≡ map (at_byte words) us → us ≡ used → least os vs ≡ least (map (at_byte words) kinds ++ o ∷ []) (map (at_byte words) used)
soonest_is words kinds os end o used us vs a b c d = rw (a, b, c, d) refl

-- the same words and events, named otherwise
pub typed_so : (text : List ℕ) (words ws : List Word) (class : ℕ → Class) (es xs : List Event) (found : List (Option Found)) → ws ≡ words → xs ≡ es
    → found ≡ typed_kinds (spelling_of text ws) (indexes_of text ws) class xs → found ≡ typed_kinds (spelling_of text words) (indexes_of text words) class es
typed_so text words ws class es xs found w e h =
    h ∙ ap (λ vs. typed_kinds (spelling_of text vs) (indexes_of text vs) class xs) w ∙ ap (typed_kinds (spelling_of text words) (indexes_of text words) class) e

pub begun_so : (text : List ℕ) (words ws : List Word) (es xs : List Event) (nodes : List Node) (numbers : List ℕ) → ws ≡ words → xs ≡ es
    → Stands nodes numbers (begun_at (spelling_of text ws) xs) → Stands nodes numbers (begun_at (spelling_of text words) es)
begun_so text words ws es xs nodes numbers w e h =
    subst (λ ys. Stands nodes numbers (begun_at (spelling_of text words) ys)) e (subst (λ vs. Stands nodes numbers (begun_at (spelling_of text vs) xs)) w h)

-- what is handed out
pub are_findings : (text : List ℕ) (allowed : Bool) (s : Seen) (f : Findings) (classes : List Class) (es : List Event) (plain typed used : List (Option Found))
    → classes ≡ classes_of text s.words → es ≡ events_seen text s → length es < 2 ^ 32
    → plain ≡ plain_kinds (class_in classes) allowed es → typed ≡ typed_kinds (spelling_of text s.words) (indexes_of text s.words) (class_in classes) es → used ≡ used_kinds (class_in classes) es
    → f.refusal ≡ least (map (at_byte s.words) (plain ++ typed) ++ ended (ending_of (length text) s.words s.fault s.places s.whole s.refusal) ∷ []) (map (at_byte s.words) used)
    → f.words.items ≡ s.words → f.classes.items ≡ classes → f.events.items ≡ es
    → Stands f.terms.nodes.keys f.begun.items (begun_at (spelling_of text s.words) es)
    → f.values.items ≡ definitions names.Values (class_in classes) es → f.labels.items ≡ definitions names.Labels (class_in classes) es → AreFindings text allowed s f
are_findings text allowed s f classes es plain typed used c e few p t u refusal words own events begun values labels = record {
  refusal = refusal ∙ judged text allowed s classes es plain typed used c e p t u;
  words = words;
  classes = own ∙ c;
  events = events ∙ e;
  few = let P : List Event → Type 0 = λ xs. length xs < 2 ^ 32 in subst P (sym events) few;
  begun = subst (λ xs. Stands f.terms.nodes.keys f.begun.items (begun_at (spelling_of text s.words) xs)) e begun;
  values = values ∙ ap (λ cs. definitions names.Values (class_in cs) es) c ∙ ap (definitions names.Values (class_in (classes_of text s.words))) e;
  labels = labels ∙ ap (λ cs. definitions names.Labels (class_in cs) es) c ∙ ap (definitions names.Labels (class_in (classes_of text s.words))) e;
}

pub finds : {E : Type 0} (text : List ℕ) (allowed : Bool) (s : Seen) (r : Result Findings E) → IsSeen text s → IfOk r (AreFindings text allowed s) → IfOk r (Finds text allowed)
finds text allowed s (Ok f) seen h = (s, seen, h)
finds text allowed s (Err e) seen h = tt

pub refuses : (text : List ℕ) (allowed : Bool) (f : Findings) → Finds text allowed f → Refuses text allowed f.refusal
refuses text allowed f (s, seen, h) = (s, seen, h.refusal)

pub is_seen : (text : List ℕ) (s : Seen) (names : List ℕ) → names ≡ names_of text s.words → AreWords text s.words s.fault → Looked s.places s.whole s.words
    → s.refusal ≡ first_refusal nothing_before (events s.places (named s.words names)) → IsFound (end_seen s) s.places (named s.words names)
    → IsRefused (end_seen s) (named s.words names) → IsBegun (end_seen s) s.places (named s.words names) → IsSeen text s
is_seen text s names e words form refusal found refused begun = record {
  words = words;
  form = form;
  refusal = rw (← e) refusal;
  found = rw (← e) found;
  refused = rw (← e) refused;
  begun = rw (← e) begun;
}

-- What is found of a text is one

same_seen : (w v : List Word) (f g : Option LexFault) (p q : List Place) (a b : Bool) (r u : Option Refusal) → w ≡ v → f ≡ g → p ≡ q → a ≡ b → r ≡ u
    → ◌≡◌ {A = Seen} (record { words = w; fault = f; places = p; whole = a; refusal = r }) (record { words = v; fault = g; places = q; whole = b; refusal = u })
same_seen w v f g p q a b r u ww ff pp aa rr = rw (ww, ff, pp, aa, rr) refl

pub seen_once : (text : List ℕ) (s t : Seen) → IsSeen text s → IsSeen text t → s ≡ t
seen_once text s t a b =
    let cut = cut_once text s.words t.words s.fault t.fault a.words b.words in
    let places : s.places ≡ t.places = sym a.form.taken ∙ ap (λ ws. (run generic start (map kind_of ws)).0) cut.0 ∙ b.form.taken in
    let wholes : s.whole ≡ t.whole = sym a.form.is ∙ ap (λ ws. whole generic (run generic start (map kind_of ws))) cut.0 ∙ b.form.is in
    let refusals : s.refusal ≡ t.refusal = a.refusal ∙ rw (cut.0, places) refl ∙ sym b.refusal in
    same_seen s.words t.words s.fault t.fault s.places t.places s.whole t.whole s.refusal t.refusal cut.0 cut.1 places wholes refusals

pub one_refusal : (text : List ℕ) (allowed : Bool) (o p : Option Found) → Refuses text allowed o → Refuses text allowed p → o ≡ p
one_refusal text allowed o p (s, a, e) (t, b, f) = e ∙ ap (refusal_of text allowed) (seen_once text s t a b) ∙ sym f

-- Where nothing refuses a text, looking at it ends nowhere

no_other : (o p : Option Found) → None ≡ or_uses o p → o ≡ None
no_other None p h = refl
no_other (Some f) p h = absurd cc

nothing_in : (os : List (Option Found)) (r : Option Found) → r ≡ None → IsLeastOf os r → NothingIn os
nothing_in os None is h = h
nothing_in os (Some f) is h = absurd cc

nothing_last : (os : List (Option Found)) (o : Option Found) → NothingIn (os ++ o ∷ []) → o ≡ None
nothing_last [] None h = refl
nothing_last [] (Some f) h = absurd h
nothing_last (None ∷ os) o h = nothing_last os o h
nothing_last (Some f ∷ os) o h = absurd h

no_end : (o : Option Ending) → ended o ≡ None → o ≡ None
no_end None h = refl
no_end (Some e) h = absurd cc

form_whole : (end : ℕ) (is_whole : Bool) (fault : Option LexFault) (next : Option Word) (count : ℕ) → form_ending end is_whole fault next ≡ None → end_of None is_whole count ≡ None
form_whole end true fault next count h = refl
form_whole end false (Some f) None count h = absurd cc
form_whole end false None None count h = absurd cc
form_whole end false fault (Some w) count h = absurd cc

ends_nowhere : (end : ℕ) (words : List Word) (fault : Option LexFault) (places : List Place) (is_whole : Bool) (refusal : Option Refusal) → ending_of end words fault places is_whole refusal ≡ None
    → end_of refusal is_whole (length places) ≡ None
ends_nowhere end words fault places is_whole (Some r) h = absurd cc
ends_nowhere end words fault places is_whole None h = form_whole end is_whole fault _ (length places) h

pub unrefused : (text : List ℕ) (allowed : Bool) (s : Seen) → None ≡ refusal_of text allowed s → end_seen s ≡ None
unrefused text allowed s none =
    let all : List (Option Found) = others text allowed s in
    let nothing : NothingIn all = nothing_in all (least_of all) (no_other (least_of all) (least_of (uses text s)) none) (finds_least all) in
    let end : Option Ending = ending_of (length text) s.words s.fault s.places s.whole s.refusal in
    let kinds : List (Option Found) = plain_kinds (class_in (classes_of text s.words)) allowed (events_seen text s) ++ typed_kinds (spelling_of text s.words) (indexes_of text s.words) (class_in (classes_of text s.words)) (events_seen text s) in
    ends_nowhere (length text) s.words s.fault s.places s.whole s.refusal (no_end end (nothing_last (map (at_byte s.words) kinds) (ended end) nothing))
