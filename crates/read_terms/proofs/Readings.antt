-- What aliases stand for in a text that is read is fine, and so are the types and attributes of its operations.
use Rattle.std.proofs.Common.{◌≡◌, ℕ, ◌==◌, Bool, true, false, List, [], ◌∷◌, Some, None, refl, sym, ap, ◌∙◌, subst, true≢false}
use Rattle.std.specs.Prelude.{◌&&◌, if◌then◌else◌}
use Rattle.line_grammar.specs.Grammar.{Reads}
use Rattle.text_grammar.specs.declared.kinds.Kind.{Kind}
use Rattle.text_grammar.specs.declared.places.Place.{Place}
use Rattle.text_grammar.specs.declared.places.Place.TheVariants as places
use Rattle.text_grammar.specs.Table.{generic}
use Rattle.text_grammar.specs.Text.{start}
use Rattle.term_table.specs.Terms.{Term}
use Rattle.text_events.specs.declared.event.Event.{Event}
use Rattle.text_types.specs.Spelling.{Spelling}
use Rattle.text_types.specs.Aliases.{after, aliases_from, bound, defines, defines_new, is_nothing, is_start, piece}
use Rattle.text_types.specs.Items.{Aliases, begins, first_of, items}
use Rattle.text_types.specs.Marks.{marked_at}
use Rattle.type_kinds.specs.Ranges.{is_colon, next_width, number_width, width_at}
use Rattle.read_terms.proofs.Terms.{fine, is_integer}
use Rattle.read_terms.proofs.Actions.{all_fine, first_fine}
use Rattle.read_terms.proofs.Steps.{EnvFine, FineAt, Runs, State, Step, event_of}
use Rattle.read_terms.proofs.Parts.{colon_next}
use Rattle.read_terms.proofs.Spans.{Ready, all_read, is_telling}

-- Marked places

same_start : (p : Place) (x y : Bool) → is_start (marked_at p x y) ≡ is_start p
same_start places.ResultsClose true y = refl
same_start places.ResultsClose false y = refl
same_start places.ResultsOpen x true = refl
same_start places.ResultsOpen x false = refl
same_start _ x y = refl

same_defines : (p : Place) (x y : Bool) → defines (marked_at p x y) ≡ defines p
same_defines places.ResultsClose true y = refl
same_defines places.ResultsClose false y = refl
same_defines places.ResultsOpen x true = refl
same_defines places.ResultsOpen x false = refl
same_defines _ x y = refl

pub same_telling : (p : Place) (x y : Bool) → is_telling (marked_at p x y) ≡ is_telling p
same_telling places.ResultsClose true y = refl
same_telling places.ResultsClose false y = refl
same_telling places.ResultsOpen x true = refl
same_telling places.ResultsOpen x false = refl
same_telling _ x y = refl

defining_starts : (p : Place) → defines p ≡ true → is_start p ≡ true
defining_starts places.TypeAliasName h = refl
defining_starts places.AttrAliasName h = refl
defining_starts _ h = absurd (true≢false (sym h))

defining_tells : (p : Place) → defines p ≡ true → is_telling p ≡ true
defining_tells places.TypeAliasName h = refl
defining_tells places.AttrAliasName h = refl
defining_tells _ h = absurd (true≢false (sym h))

start_no_colon : (p : Place) → is_start p ≡ true → is_colon p ≡ false
start_no_colon places.NumberColon h = absurd (true≢false (sym h))
start_no_colon _ h = refl

module _ (words : Spelling) (final : Aliases) where
  start_no_width : (p : Place) (name : ℕ) → is_start p ≡ true → width_at words final p name ≡ None
  start_no_width places.ElementWord name h = absurd (true≢false (sym h))
  start_no_width places.ElementAlias name h = absurd (true≢false (sym h))
  start_no_width _ name h = refl

  next_piece : (es : List Event) → next_width words final es ≡ next_width words final (piece es)
  next_piece [] = refl
  next_piece (e ∷ es) = by_start (is_start e.place) refl
    where
      by_start : (b : Bool) → is_start e.place ≡ b → width_at words final e.place e.name ≡ next_width words final (if b then [] else e ∷ piece es)
      by_start true h = start_no_width e.place e.name h
      by_start false h = refl

  width_piece : (es : List Event) → number_width words final es ≡ number_width words final (piece es)
  width_piece [] = refl
  width_piece (e ∷ es) = by_start (is_start e.place) refl
    where
      by_start : (b : Bool) → is_start e.place ≡ b → number_width words final (e ∷ es) ≡ number_width words final (if b then [] else e ∷ piece es)
      by_start true h = ap (λ c. if c then next_width words final es else Some 64) (start_no_colon e.place h)
      by_start false h = ap (λ w. if is_colon e.place then w else Some 64) (next_piece es)

  first_is : (ts : List Term) → all_fine words.number ts → fine words.number (first_of ts) ≡ true
  first_is [] h = refl
  first_is (t ∷ ts) h = first_fine words.number t ts h

  -- Definitions of aliases

  abbrev DefsFine : Aliases → List Event → Type 0
  DefsFine a [] = Unit {0}
  DefsFine a (e ∷ es) = (defines e.place ≡ true → EnvFine words a → fine words.number (begins words a (piece es)) ≡ true) × DefsFine (after words a e es) es

  after_fine : (a : Aliases) (e : Event) (es : List Event) → (defines e.place ≡ true → EnvFine words a → fine words.number (begins words a (piece es)) ≡ true) → EnvFine words a → EnvFine words (after words a e es)
  after_fine a e es d f m = by_new (defines_new a e) refl
    where
      by_name : (b : Bool) → fine words.number (begins words a (piece es)) ≡ true → fine words.number (if b then begins words a (piece es) else a m) ≡ true
      by_name true k = k
      by_name false k = f m

      both : (b c : Bool) → (b && c) ≡ true → b ≡ true
      both true c h = refl
      both false c h = absurd (true≢false (sym h))

      by_new : (b : Bool) → defines_new a e ≡ b → fine words.number ((if b then bound e.name (begins words a (piece es)) a else a) m) ≡ true
      by_new true h = by_name (m == e.name) (d (both (defines e.place) (is_nothing (a e.name)) h) f)
      by_new false h = f m

  from_fine : (a : Aliases) (es : List Event) → DefsFine a es → EnvFine words a → EnvFine words (aliases_from words a es)
  from_fine a [] d f = f
  from_fine a (e ∷ es) d f = from_fine (after words a e es) es d.1 (after_fine a e es d.0 f)

  abbrev pieces : State → List Event
  pieces x = piece x.events

  abbrev env_of : State → Aliases
  env_of x = x.env

  abbrev DefsTold : State → Type 0
  DefsTold x = DefsFine x.later x.events

  piece_moved : (p : Place) (x y : State) (m : Step words final p x y) → is_start p ≡ false → pieces x ≡ event_of words final p x y m ∷ pieces y
  piece_moved p x y m h = ap piece m.event_is ∙ ap (λ b. if b then [] else event_of words final p x y m ∷ piece y.events) (same_start p m.arrow m.inner ∙ h)

  piece_over : (p : Place) (x y : State) → Step words final p x y → is_start p ≡ true → pieces x ≡ []
  piece_over p x y m h = ap piece m.event_is ∙ ap (λ b. if b then [] else event_of words final p x y m ∷ piece y.events) (same_start p m.arrow m.inner ∙ h)

  env_kept : (p : Place) (x y : State) → Step words final p x y → is_start p ≡ false → x.env ≡ y.env
  env_kept p x y m h = sym (m.env_is ∙ ap (λ b. if b then x.later else x.env) h)

  piece_fine : (p : Place) (x y : State) → Step words final p x y → is_start p ≡ true → FineAt words y.env (pieces y) → FineAt words x.env (pieces x)
  piece_fine p x y m h f = subst (FineAt words x.env) (sym (piece_over p x y m h)) (λ s. refl)

  defs_told : (p : Place) (x y : State) → Step words final p x y → (is_telling p ≡ true → FineAt words x.env (pieces x) × FineAt words y.env (pieces y)) → DefsTold y → DefsTold x
  defs_told p x y m f t =
      subst (DefsFine x.later) (sym m.event_is) (λ d s. here (sym (same_defines p m.arrow m.inner) ∙ d) s, subst (λ a. DefsFine a y.events) m.later_is t)
    where
      here : defines p ≡ true → EnvFine words x.later → fine words.number (begins words x.later (piece y.events)) ≡ true
      here d s =
          let e : y.env ≡ x.later = m.env_is ∙ ap (λ b. if b then x.later else x.env) (defining_starts p d) in
          let ready : FineAt words x.later (piece y.events) = subst (λ a. FineAt words a (piece y.events)) e (f (defining_tells p d)).1 in
          first_is (items words x.later (piece y.events)) (ready s)

  -- what aliases stand for is fine
  pub aliases_fine : {ps : List Place} {ks : List Kind} → Reads generic start ps ks → (x : State) → Runs words final ps x → EnvFine words x.later → EnvFine words (aliases_from words x.later x.events)
  aliases_fine reads x r f =
      let last : Ready words final pieces env_of DefsTold piece_moved env_kept (λ x. width_piece x.events) (λ x y m. m.integer refl) piece_fine (λ p x y m h. ap colon_next (piece_over p x y m h)) defs_told r.last = record {
        fine = subst (λ es. FineAt words r.last.env (piece es)) (sym r.over) (λ s. refl);
        colon = λ s c. absurd (true≢false (sym c ∙ ap (λ es. colon_next (piece es)) r.over));
        told = subst (DefsFine r.last.later) (sym r.over) tt;
      } in
      let first = all_read words final pieces env_of DefsTold piece_moved env_kept (λ x. width_piece x.events) (λ x y m. m.integer refl) piece_fine (λ p x y m h. ap colon_next (piece_over p x y m h)) defs_told reads r.run last in
      from_fine x.later x.events first.told f

  -- Types and attributes of operations

  abbrev pub TermsTold : List Event → Type 0
  TermsTold [] = Unit {0}
  TermsTold (e ∷ es) = (is_telling e.place ≡ true → EnvFine words final → fine words.number (begins words final (e ∷ es)) ≡ true) × TermsTold es

  abbrev whole : State → List Event
  whole x = x.events

  abbrev last_env : State → Aliases
  last_env x = final

  start_kept : (p : Place) (x y : State) → Step words final p x y → is_start p ≡ true → FineAt words final x.events ≡ FineAt words final x.events → FineAt words final y.events → FineAt words final x.events
  start_kept places.OpName x y m h e f = λ s. subst (λ es. all_fine words.number (items words final es)) (sym m.event_is) (f s)
  start_kept places.ResultName x y m h e f = λ s. subst (λ es. all_fine words.number (items words final es)) (sym m.event_is) (f s)
  start_kept places.TypeAliasName x y m h e f = λ s. subst (λ es. all_fine words.number (items words final es)) (sym m.event_is) (f s)
  start_kept places.AttrAliasName x y m h e f = λ s. subst (λ es. all_fine words.number (items words final es)) (sym m.event_is) (f s)
  start_kept _ x y m h e f = absurd (true≢false (sym h))

  start_quiet : (p : Place) (x y : State) → Step words final p x y → is_start p ≡ true → colon_next x.events ≡ false
  start_quiet p x y m h = ap colon_next m.event_is ∙ start_no_colon (marked_at p m.arrow m.inner) (same_start p m.arrow m.inner ∙ h)

  terms_told : (p : Place) (x y : State) → Step words final p x y → (is_telling p ≡ true → FineAt words final x.events × FineAt words final y.events) → TermsTold y.events → TermsTold x.events
  terms_told p x y m f t =
      subst TermsTold (sym m.event_is)
      (λ d s. subst (λ es. fine words.number (begins words final es) ≡ true) m.event_is (first_is (items words final x.events) ((f (sym (same_telling p m.arrow m.inner) ∙ d)).0 s)), t)

  integer_final : (x y : State) (m : Step words final places.ElementAlias x y) → (is_integer (final m.name) ≡ true) × (final m.name ≡ final m.name)
  integer_final x y m = let i = m.integer refl in (ap is_integer i.1 ∙ i.0, refl)

  -- the types and attributes of operations are fine
  pub terms_fine : {ps : List Place} {ks : List Kind} → Reads generic start ps ks → (x : State) → Runs words final ps x → TermsTold x.events
  terms_fine reads x r =
      let last : Ready words final whole last_env (λ x. TermsTold x.events) (λ p x y m h. m.event_is) (λ p x y m h. refl) (λ x. refl) integer_final (λ p x y m h f. start_kept p x y m h refl f) start_quiet terms_told r.last = record {
        fine = subst (FineAt words final) (sym r.over) (λ s. refl);
        colon = λ s c. absurd (true≢false (sym c ∙ ap colon_next r.over));
        told = subst TermsTold (sym r.over) tt;
      } in
      (all_read words final whole last_env (λ x. TermsTold x.events) (λ p x y m h. m.event_is) (λ p x y m h. refl) (λ x. refl) integer_final (λ p x y m h f. start_kept p x y m h refl f) start_quiet terms_told reads r.run last).told
