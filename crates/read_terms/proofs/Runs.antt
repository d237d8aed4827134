-- All events of a text that is refused for nothing, one by one.
use Rattle.std.proofs.Common.{◌≡◌, ℕ, ◌+◌, ◌<◌, ◌≤◌, ◌^◌, Bool, true, false, List, [], ◌∷◌, length, Option, Some, None, refl, sym, ap, ◌∙◌, subst, arith}
use Rattle.std.specs.Prelude.{◌&&◌, nat_le, nat_lt, if◌then◌else◌}
use Rattle.std.proofs.lemmas.Bool.Decides.{nat_tests}
use Rattle.line_grammar.specs.Language.{events, first_at, one_later}
use Rattle.text_grammar.specs.declared.places.Place.{Place}
use Rattle.text_grammar.specs.declared.places.Place.TheVariants as places
use Rattle.text_grammar.specs.declared.words.Word.{Word}
use Rattle.text_events.specs.declared.alias.AliasClass.{AliasClass}
use Rattle.text_events.specs.declared.alias.AliasClass.TheVariants.{Integer, Other, Location}
use Rattle.text_events.specs.declared.ending.EndKind.{EndKind}
use Rattle.text_events.specs.declared.event.Event.{Event}
use Rattle.text_events.specs.declared.look.Refusal.{Refusal}
use Rattle.text_events.specs.Aliases as text
use Rattle.text_events.specs.Aliases.{alias_fault, aliases_behind, class_of, known_behind, no_integer}
use Rattle.text_events.specs.Language as language
use Rattle.text_events.specs.Language.{Before, Named, ends_at, first_some, long_at, named, refused_at, sizes_behind}
use Rattle.text_events.specs.Looking.{first_refusal, here_or_later}
use Rattle.text_events.specs.Source.{events_from, is_own}
use Rattle.text_types.specs.Spelling.{Spelling}
use Rattle.text_types.specs.Aliases.{after, aliases_from, bound, defines, is_nothing, is_start, piece}
use Rattle.text_types.specs.Items.{Aliases, begins}
use Rattle.text_types.specs.Marks.{arrow_next, closed, first_or_false, marked, marked_at}
use Rattle.text_scopes.specs.declared.bodies.Body.{Body}
use Rattle.text_scopes.specs.declared.bodies.Class.{Class}
use Rattle.text_scopes.specs.declared.tables.Names.TheVariants as names
use Rattle.text_scopes.specs.Bodies.{behind}
use Rattle.text_scopes.specs.Seen.{Turn, again, passed, turns}
use Rattle.text_scopes.specs.Tables.{attr_alias_step, steps_of, type_alias_step}
use Rattle.text_forms.specs.Forms.{run_end, run_more}
use Rattle.type_kinds.specs.First.{first_in}
use Rattle.type_kinds.specs.Ranges.{Listed, is_minus, is_out, listed_at, number_width, out_at, pass_listed, written_width}
use Rattle.read_terms.proofs.Terms.{is_integer}
use Rattle.read_terms.proofs.Actions.{Sound, is_sized, is_wide}
use Rattle.read_terms.proofs.Fits.{written_positive}
use Rattle.read_terms.proofs.Steps.{Runs}
use Rattle.read_terms.proofs.Known.{Defs, Extends, KnownOk, Pending, attr_new, defs_moved, extends_after, extends_from, integer_there, known_start, named_new, pend_moved, type_new}

-- Nothing is found

pub not_there : (b : Bool) (o : Option ℕ) → ◌≡◌ {A = Option ℕ} (elim b [ true ↦ Some 0 | false ↦ one_later o ]) None → b ≡ false
not_there true o h = absurd cc
not_there false o h = refl

none_later : (o : Option ℕ) → one_later o ≡ None → o ≡ None
none_later None h = refl
none_later (Some n) h = absurd cc

pub not_later : (b : Bool) (o : Option ℕ) → ◌≡◌ {A = Option ℕ} (elim b [ true ↦ Some 0 | false ↦ one_later o ]) None → o ≡ None
not_later true o h = absurd cc
not_later false o h = none_later o h

no_end : (o : Option EndKind) (r : Option Refusal) → here_or_later o r ≡ None → o ≡ None
no_end None r h = refl
no_end (Some k) r h = absurd cc

no_later_end : (o : Option EndKind) (r : Option Refusal) → here_or_later o r ≡ None → r ≡ None
no_later_end (Some k) r h = absurd cc
no_later_end None None h = refl
no_later_end None (Some r) h = absurd cc

no_first : {X : Type 0} (o p : Option X) → first_some o p ≡ None → o ≡ None
no_first None p h = refl
no_first (Some x) p h = absurd cc

no_second : {X : Type 0} (o p : Option X) → first_some o p ≡ None → p ≡ None
no_second None p h = h
no_second (Some x) p h = absurd cc

-- Marked places

same_defines : (p : Place) (x y : Bool) → defines (marked_at p x y) ≡ defines p
same_defines places.ResultsClose true y = refl
same_defines places.ResultsClose false y = refl
same_defines places.ResultsOpen x true = refl
same_defines places.ResultsOpen x false = refl
same_defines _ x y = refl

same_out : (words : Spelling) (s : Listed) (p : Place) (name : ℕ) (w : Option ℕ) (x y : Bool) → out_at words s (marked_at p x y) name w ≡ out_at words s p name w
same_out words s places.ResultsClose name w true y = refl
same_out words s places.ResultsClose name w false y = refl
same_out words s places.ResultsOpen name w x true = refl
same_out words s places.ResultsOpen name w x false = refl
same_out words s _ name w x y = refl

same_listed : (words : Spelling) (p : Place) (name width : ℕ) (x y : Bool)
    → ◌≡◌ {A = Listed} (record { width = listed_at words (marked_at p x y) name width; minus = is_minus (marked_at p x y) }) (record { width = listed_at words p name width; minus = is_minus p })
same_listed words places.ResultsClose name w true y = refl
same_listed words places.ResultsClose name w false y = refl
same_listed words places.ResultsOpen name w x true = refl
same_listed words places.ResultsOpen name w x false = refl
same_listed words _ name w x y = refl

-- Names and widths

module _ (words : Spelling) (bang hash : ℕ → Type 0) where
  -- what is known of a word's name by its kind
  abbrev pub Spelt : Place → ℕ → Type 0
  Spelt places.IntegerWord name = is_sized (words.width name) ≡ true
  Spelt places.ElementWord name = is_sized (words.width name) ≡ true
  Spelt places.NumbersWidth name = is_wide (words.width name) ≡ true
  Spelt places.TypeAliasName name = bang name
  Spelt places.AttrAliasName name = hash name
  Spelt _ name = Unit {0}

  abbrev pub AllSpelt : List Event → Type 0
  AllSpelt [] = Unit {0}
  AllSpelt (e ∷ es) = Spelt e.place e.name × AllSpelt es

  array_small : (n : ℕ) → nat_le 4294967296 n ≡ false → nat_lt n (2 ^ 32) ≡ true
  array_small n h = by_limit 4294967296 n h
    where
      by_limit : (m n : ℕ) → nat_le m n ≡ false → nat_lt n m ≡ true
      by_limit m n h = grind (arith, nat_tests)

  sound_here : (p : Place) (name : ℕ) (s : Listed) (w : Option ℕ) → Spelt p name → out_at words s p name w ≡ false → Sound words p name
  sound_here places.IntegerWord name s w h o = h
  sound_here places.ElementWord name s w h o = h
  sound_here places.NumbersWidth name s w h o = h
  sound_here places.ArrayNumber name s w h o = array_small (words.number name) o
  sound_here _ name s w h o = tt

  sized_here : (p : Place) (own name : ℕ) → Spelt p (if is_own p then own else name) → p ≡ places.IntegerWord → is_sized (words.width own) ≡ true
  sized_here p own name h e = subst (λ (q : Place). Spelt q (if is_own q then own else name)) e h

  bang_here : (p : Place) (own name : ℕ) → Spelt p (if is_own p then own else name) → p ≡ places.TypeAliasName → bang (if is_own p then own else name)
  bang_here p own name h e = subst (λ (q : Place). bang (if is_own q then own else name)) (sym e) (subst (λ (q : Place). Spelt q (if is_own q then own else name)) e h)

  hash_here : (p : Place) (own name : ℕ) → Spelt p (if is_own p then own else name) → p ≡ places.AttrAliasName → hash (if is_own p then own else name)
  hash_here p own name h e = subst (λ (q : Place). hash (if is_own q then own else name)) (sym e) (subst (λ (q : Place). Spelt q (if is_own q then own else name)) e h)

  width_moved : (p : Place) (name width : ℕ) → Spelt p name → 0 < width → 0 < listed_at words p name width
  width_moved places.NumbersWidth name width h k = positive (written_width (words.width name)) (wide (words.width name) h)
    where
      positive : (n : ℕ) → nat_lt 0 n ≡ true → 0 < n
      positive n h = grind (arith, nat_tests)

      wide : (o : Option ℕ) → is_wide o ≡ true → nat_lt 0 (written_width o) ≡ true
      wide None h = refl
      wide (Some w) h = written_positive (Some w) h
  width_moved _ name width h k = k

  sizes_moved : (p : Place) (n : ℕ) → n ≤ 8 → sizes_behind n p ≤ 8
  sizes_moved places.MemrefWord n h = omega arith
  sizes_moved places.DimensionSize n h = by_test (nat_lt n 8) refl
    where
      by_test : (b : Bool) → nat_lt n 8 ≡ b → (if b then n + 1 else n) ≤ 8
      by_test true e = grind (arith, nat_tests)
      by_test false e = h
  sizes_moved _ n h = h

  -- What holds before each event

  pub record Holds (final : Aliases) (a : text.Aliases) (env later : Aliases) (bt ba : List Turn) (es : List Event) : Type 0 where
    pub known : KnownOk words a.known env
    pub grows : Extends env later
    pub pending : Pending words a.current env later es
    pub defs : Defs words bang hash later bt ba
    pub final_is : final ≡ aliases_from words later es

  module _ (apart : (m : ℕ) → bang m → hash m → ⊥) (final : Aliases) where
    abbrev here : Place → Bool → Bool → ℕ → ℕ → Event
    here p x y own n = record { place = marked_at p x y; name = if is_own p then own else n }

    kept_later : (later : Aliases) (e : Event) (es : List Event) → defines e.place ≡ false → after words later e es ≡ later
    kept_later later e es h = ap (λ b. if b && is_nothing (later e.name) then bound e.name (begins words later (piece es)) later else later) h

    extends_trans : (a b c : Aliases) → Extends a b → Extends b c → Extends a c
    extends_trans a b c f g = λ m h. g m (ap is_nothing (f m h) ∙ h) ∙ f m h

    abbrev Next : text.Aliases → Aliases → Aliases → List Turn → List Turn → Place → Bool → Bool → ℕ → ℕ → List Event → Type 0
    Next a env later bt ba p x y own n es =
        Holds final (aliases_behind a p n) (if is_start p then later else env) (after words later (here p x y own n) es)
        ((type_alias_step p, record { place = p; name = if is_own p then own else n }) ∷ bt) ((attr_alias_step p, record { place = p; name = if is_own p then own else n }) ∷ ba) es

    -- within a definition or an operation
    goes_on : (a : text.Aliases) (env later : Aliases) (bt ba : List Turn) (p : Place) (x y : Bool) (own n : ℕ) (es : List Event)
        → is_start p ≡ false → defines p ≡ false → (aliases_behind a p n).known ≡ a.known → Spelt p (if is_own p then own else n) → Holds final a env later bt ba (here p x y own n ∷ es) → Next a env later bt ba p x y own n es
    goes_on a env later bt ba p x y own n es h d k s o =
        let same : after words later (here p x y own n) es ≡ later = kept_later later (here p x y own n) es (same_defines p x y ∙ d) in
        let env_same : (if is_start p then later else env) ≡ env = ap (λ b. if b then later else env) h in
        record {
          known = subst (λ e. KnownOk words (aliases_behind a p n).known e) (sym env_same) (subst (λ l. KnownOk words l env) (sym k) o.known);
          grows = subst (λ e. Extends e (after words later (here p x y own n) es)) (sym env_same) (subst (λ l. Extends env l) (sym same) o.grows);
          pending = subst (λ e. Pending words (aliases_behind a p n).current e (after words later (here p x y own n) es) es) (sym env_same)
              (subst (λ l. Pending words (aliases_behind a p n).current env l es) (sym same) (pend_moved words p x y own n a env later es h (sized_here p own n s) o.known o.pending));
          defs = defs_moved words bang hash later bt ba p (marked_at p x y) (if is_own p then own else n) es (same_defines p x y) (bang_here p own n s) (hash_here p own n s) o.defs;
          final_is = o.final_is;
        }

    -- where an operation or a definition begins
    begins_so : (a : text.Aliases) (env later : Aliases) (bt ba : List Turn) (p : Place) (x y : Bool) (own n : ℕ) (es : List Event)
        → is_start p ≡ true → (aliases_behind a p n).known ≡ known_behind a.current a.known → Pending words (aliases_behind a p n).current later (after words later (here p x y own n) es) es
        → Spelt p (if is_own p then own else n) → Holds final a env later bt ba (here p x y own n ∷ es) → Next a env later bt ba p x y own n es
    begins_so a env later bt ba p x y own n es h k q s o =
        let env_same : (if is_start p then later else env) ≡ later = ap (λ b. if b then later else env) h in
        record {
          known = subst (λ e. KnownOk words (aliases_behind a p n).known e) (sym env_same)
              (subst (λ l. KnownOk words l later) (sym k) (known_start words a.current a.known env later (here p x y own n ∷ es) o.known o.grows o.pending));
          grows = subst (λ e. Extends e (after words later (here p x y own n) es)) (sym env_same) (extends_after words later (here p x y own n) es);
          pending = subst (λ e. Pending words (aliases_behind a p n).current e (after words later (here p x y own n) es) es) (sym env_same) q;
          defs = defs_moved words bang hash later bt ba p (marked_at p x y) (if is_own p then own else n) es (same_defines p x y) (bang_here p own n s) (hash_here p own n s) o.defs;
          final_is = o.final_is;
        }

    holds_moved : (a : text.Aliases) (env later : Aliases) (bt ba : List Turn) (p : Place) (x y : Bool) (own n : ℕ) (es : List Event) → Spelt p (if is_own p then own else n)
        → again false bt (type_alias_step p, record { place = p; name = if is_own p then own else n }) ≡ false → again false ba (attr_alias_step p, record { place = p; name = if is_own p then own else n }) ≡ false
        → Holds final a env later bt ba (here p x y own n ∷ es) → Next a env later bt ba p x y own n es
    holds_moved a env later bt ba places.OpName x y own n es s t u o = begins_so a env later bt ba places.OpName x y own n es refl refl tt s o
    holds_moved a env later bt ba places.ResultName x y own n es s t u o = begins_so a env later bt ba places.ResultName x y own n es refl refl tt s o
    holds_moved a env later bt ba places.TypeAliasName x y own n es s t u o =
        begins_so a env later bt ba places.TypeAliasName x y own n es refl refl
        (named_new words later places.TypeAliasName n es refl (type_new words bang hash later bt ba n (record { place = places.TypeAliasName; name = n }) apart s refl t o.defs)) s o
    holds_moved a env later bt ba places.AttrAliasName x y own n es s t u o =
        begins_so a env later bt ba places.AttrAliasName x y own n es refl refl
        (named_new words later places.AttrAliasName n es refl (attr_new words bang hash later bt ba n (record { place = places.AttrAliasName; name = n }) apart s refl u o.defs)) s o
    holds_moved a env later bt ba p x y own n es s t u o = goes_on a env later bt ba p x y own n es refl refl refl s o

    -- an alias that serves as the type of a number
    some_class : (o : Option AliasClass) → no_integer o ≡ None → o ≡ Some Integer
    some_class None h = absurd cc
    some_class (Some Integer) h = refl
    some_class (Some Other) h = absurd cc
    some_class (Some Location) h = absurd cc

    integer_here : (a : text.Aliases) (env later : Aliases) (bt ba : List Turn) (es : List Event) (p : Place) (own n : ℕ) → Holds final a env later bt ba es → alias_fault a.known p n ≡ None → p ≡ places.ElementAlias
        → (is_integer (env (if is_own p then own else n)) ≡ true) × (final (if is_own p then own else n) ≡ env (if is_own p then own else n))
    integer_here a env later bt ba es p own n o f e =
        let k : alias_fault a.known places.ElementAlias n ≡ None = subst (λ (q : Place). alias_fault a.known q n ≡ None) e f in
        let i : is_integer (env n) ≡ true = o.known n (some_class (class_of n a.known) k) in
        let l : later n ≡ env n = o.grows n (integer_there (env n) i) in
        let g : final n ≡ later n = ap (λ (f : Aliases). f n) o.final_is ∙ extends_from words later es n (ap is_nothing l ∙ integer_there (env n) i) in
        subst (λ (q : Place). (is_integer (env (if is_own q then own else n)) ≡ true) × (final (if is_own q then own else n) ≡ env (if is_own q then own else n))) (sym e) (i, g ∙ l)

    -- All events

    pub runs : (class : ℕ → Class) (ps : List Place) (ws : List Word) (ns : List ℕ) (own : ℕ) (b : Before) (listed : Listed) (env later : Aliases) (bt ba : List Turn) (body : Body)
        → length ws ≡ length ps → length ns ≡ length ps → b.sizes ≤ 8 → 0 < listed.width
        → Holds final b.aliases env later bt ba (marked (events_from own ps ns)) → AllSpelt (events_from own ps ns)
        → first_refusal b (events ps (named ws ns)) ≡ None
        → first_in (pass_listed words) (is_out words final) listed (marked (events_from own ps ns)) ≡ None
        → first_at passed (again false) bt (turns (steps_of names.TypeAliases class body (events_from own ps ns)) (events_from own ps ns)) ≡ None
        → first_at passed (again false) ba (turns (steps_of names.AttrAliases class body (events_from own ps ns)) (events_from own ps ns)) ≡ None
        → Runs words final ps (record { sizes = b.sizes; listed = listed; env = env; later = later; events = marked (events_from own ps ns) })
    runs class [] ws ns own b listed env later bt ba body lw ln few wide o s f r t u = record { last = _; run = run_end _; over = refl }
    runs class (p ∷ ps) [] ns own b listed env later bt ba body lw ln few wide o s f r t u = absurd (omega (arith, lw))
    runs class (p ∷ ps) (w ∷ ws) [] own b listed env later bt ba body lw ln few wide o s f r t u = absurd (omega (arith, ln))
    runs class (p ∷ ps) (w ∷ ws) (n ∷ ns) own b listed env later bt ba body lw ln few wide o s f r t u =
        let es : List Event = events_from (own + 1) ps ns in
        let x : Bool = arrow_next es in
        let y : Bool = first_or_false (closed es) in
        let e : Event = record { place = p; name = if is_own p then own else n } in
        let none : ends_at b (p, record { word = w; name = n }) ≡ None = no_end (ends_at b (p, record { word = w; name = n })) (first_refusal (language.step b (p, record { word = w; name = n })) (events ps (named ws ns))) f in
        let refused : refused_at b.sizes p ≡ None = no_first (refused_at b.sizes p) (first_some (alias_fault b.aliases.known p n) (long_at p w)) none in
        let served : alias_fault b.aliases.known p n ≡ None = no_first (alias_fault b.aliases.known p n) (long_at p w) (no_second (refused_at b.sizes p) (first_some (alias_fault b.aliases.known p n) (long_at p w)) none) in
        let out : is_out words final listed (here p x y own n) (marked es) ≡ false = not_there (is_out words final listed (here p x y own n) (marked es)) (first_in (pass_listed words) (is_out words final) (pass_listed words listed (here p x y own n) (marked es)) (marked es)) r in
        let inside : out_at words listed p (if is_own p then own else n) (number_width words final (marked es)) ≡ false = sym (same_out words listed p (if is_own p then own else n) (number_width words final (marked es)) x y) ∙ out in
        let not_type : again false bt (type_alias_step p, e) ≡ false = not_there (again false bt (type_alias_step p, e)) (first_at passed (again false) ((type_alias_step p, e) ∷ bt) (turns (steps_of names.TypeAliases class (behind class body e) es) es)) t in
        let not_attr : again false ba (attr_alias_step p, e) ≡ false = not_there (again false ba (attr_alias_step p, e)) (first_at passed (again false) ((attr_alias_step p, e) ∷ ba) (turns (steps_of names.AttrAliases class (behind class body e) es) es)) u in
        let next_listed : Listed = record { width = listed_at words p (if is_own p then own else n) listed.width; minus = is_minus p } in
        let passes : pass_listed words listed (here p x y own n) (marked es) ≡ next_listed = same_listed words p (if is_own p then own else n) listed.width x y in
        let more : Runs words final ps (record { sizes = sizes_behind b.sizes p; listed = next_listed; env = if is_start p then later else env; later = after words later (here p x y own n) (marked es); events = marked es }) =
        runs class ps ws ns (own + 1) (language.step b (p, record { word = w; name = n })) next_listed (if is_start p then later else env) (after words later (here p x y own n) (marked es)) ((type_alias_step p, e) ∷ bt) ((attr_alias_step p, e) ∷ ba) (behind class body e)
        (omega (arith, lw)) (omega (arith, ln)) (sizes_moved p b.sizes few) (width_moved p (if is_own p then own else n) listed.width s.0 wide)
        (holds_moved b.aliases env later bt ba p x y own n (marked es) s.0 not_type not_attr o) s.1
        (no_later_end (ends_at b (p, record { word = w; name = n })) (first_refusal (language.step b (p, record { word = w; name = n })) (events ps (named ws ns))) f)
        (sym (ap (λ l. first_in (pass_listed words) (is_out words final) l (marked es)) passes) ∙ not_later (is_out words final listed (here p x y own n) (marked es)) (first_in (pass_listed words) (is_out words final) (pass_listed words listed (here p x y own n) (marked es)) (marked es)) r)
        (not_later (again false bt (type_alias_step p, e)) (first_at passed (again false) ((type_alias_step p, e) ∷ bt) (turns (steps_of names.TypeAliases class (behind class body e) es) es)) t)
        (not_later (again false ba (attr_alias_step p, e)) (first_at passed (again false) ((attr_alias_step p, e) ∷ ba) (turns (steps_of names.AttrAliases class (behind class body e) es) es)) u) in
        record {
          last = more.last;
          run = run_more p (record {
            name = if is_own p then own else n;
            arrow = x;
            inner = y;
            event_is = refl;
            sizes_is = refl;
            few = few;
            allowed = refused;
            sound = sound_here p (if is_own p then own else n) listed (number_width words final (marked es)) s.0 inside;
            listed_is = refl;
            wide = wide;
            inside = inside;
            integer = integer_here b.aliases env later bt ba (here p x y own n ∷ marked es) p own n o served;
            env_is = refl;
            later_is = refl;
          }) more.run;
          over = more.over;
        }
