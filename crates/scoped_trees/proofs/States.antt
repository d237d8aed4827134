-- States of a printed text: what is counted before an event, the turns before it, and the events that are left. It goes over to another by an event.
use Rattle.std.proofs.Common.{◌≡◌, ℕ, suc, ◌+◌, Bool, true, false, List, [], ◌∷◌, ◌++◌, length, drop, get_or, refl, sym, ap, ◌∙◌, arith, append_assoc, length-append}
use Rattle.std.proofs.lemmas.List.{drop-drop, get_or-drop}
use Rattle.text_grammar.specs.declared.places.Place.{Place}
use Rattle.text_events.specs.declared.event.Event.{Event}
use Rattle.text_types.specs.Spelling.{Spelling}
use Rattle.text_types.specs.Items.{Aliases, begun, place_next}
use Rattle.text_scopes.specs.declared.bodies.Body.{Body}
use Rattle.text_scopes.specs.declared.bodies.Class.{Class}
use Rattle.text_scopes.specs.declared.steps.Step.{Step}
use Rattle.text_scopes.specs.declared.steps.Step.TheVariants as steps
use Rattle.text_scopes.specs.declared.tables.Names.TheVariants as names
use Rattle.text_scopes.specs.Bodies.{behind}
use Rattle.text_scopes.specs.Seen.{Turn, turns}
use Rattle.text_scopes.specs.Tables.{label_step, steps_of, value_step}
use Rattle.event_trees.specs.declared.counts.Counts.{Counts}
use Rattle.event_trees.specs.Wording.{Wording}
use Rattle.event_trees.specs.Numbers.{counted, defined_at, first_count, numbers_from, result_counts, waiting}
use Rattle.scope_laws.specs.Turns.{Level, is_flat, level_end, level_nest, level_step, pass}
use Rattle.scope_laws.proofs.TurnLaws.{length_pass, level_append, pass_append}

-- what is known of a text
pub record Setting : Type 0 where
  pub words : Spelling
  pub wording : Wording
  pub aliases : Aliases
  pub class : ℕ → Class
  pub numbers : List ℕ
  pub all : List Event

pub record St : Type 0 where
  pub counts : Counts
  pub values : List Turn
  pub labels : List Turn
  pub events : List Event

abbrev pub st : Counts → List Turn → List Turn → List Event → St
st c vs ls es = record { counts = c; values = vs; labels = ls; events = es }

abbrev pub event : Place → ℕ → Event
event place name = record { place = place; name = name }

-- of values, or of labels
abbrev pub pick : Bool → Step → Step → Step
pick true s t = s
pick false s t = t

abbrev pub before : Bool → St → List Turn
before true x = x.values
before false x = x.labels

-- lists
pub here_is : (numbers : List ℕ) (k v : ℕ) (rest : List ℕ) → drop k numbers ≡ v ∷ rest → get_or numbers k 0 ≡ v
here_is numbers k v rest e =
    let z : k ≡ k + 0 = omega arith in
    ap (λ j. get_or numbers j 0) z ∙ sym (get_or-drop k numbers 0 0) ∙ ap (λ xs. get_or xs 0 0) e

drop_more_is : (xs ys zs : List ℕ) (m k n : ℕ) → n ≡ m + k → drop m xs ≡ ys → drop k ys ≡ zs → drop n xs ≡ zs
drop_more_is xs ys zs m k n e f h = ap (λ j. drop j xs) e ∙ sym (drop-drop k m xs) ∙ ap (drop k) f ∙ h

module _ (g : Setting) where
  abbrev pub waits : List Event → List ℕ
  waits es = waiting es (begun g.words g.aliases es)

  -- the numbers of what is left
  abbrev pub own : St → List ℕ
  own x = numbers_from g.wording g.class x.counts x.events (result_counts x.events (begun g.words g.aliases x.events))

  abbrev pub ahead : Bool → St → List Turn
  ahead true x = turns (steps_of names.Values g.class x.counts.body x.events) x.events
  ahead false x = turns (steps_of names.Labels g.class x.counts.body x.events) x.events

  -- one event, which is this to values and that to labels
  pub record Moved (s t : Step) (e : Event) (x y : St) : Type 0 where
    pub event_is : x.events ≡ e ∷ y.events
    pub counts_is : y.counts ≡ counted g.wording g.class x.counts e (first_count (waits y.events)) (place_next y.events)
    pub value_is : value_step x.counts.body e.place ≡ s
    pub label_is : label_step x.counts.body e.place ≡ t
    pub values_is : y.values ≡ (s, e) ∷ x.values
    pub labels_is : y.labels ≡ (t, e) ∷ x.labels

  body_moved : {s t : Step} {e : Event} {x y : St} → Moved s t e x y → behind g.class x.counts.body e ≡ y.counts.body
  body_moved m = sym (ap (λ (c : Counts). c.body) m.counts_is)

  pub ahead_moved : (side : Bool) {s t : Step} {e : Event} {x y : St} → Moved s t e x y → ahead side x ≡ (pick side s t, e) ∷ ahead side y
  ahead_moved true {s} {t} {e} {x} {y} m =
      ap (λ es. turns (steps_of names.Values g.class x.counts.body es) es) m.event_is ∙ ap (λ (z : Step). (z, e) ∷ turns (steps_of names.Values g.class (behind g.class x.counts.body e) y.events) y.events) m.value_is
      ∙ ap (λ (b : Body). (s, e) ∷ turns (steps_of names.Values g.class b y.events) y.events) (body_moved m)
  ahead_moved false {s} {t} {e} {x} {y} m =
      ap (λ es. turns (steps_of names.Labels g.class x.counts.body es) es) m.event_is ∙ ap (λ (z : Step). (z, e) ∷ turns (steps_of names.Labels g.class (behind g.class x.counts.body e) y.events) y.events) m.label_is
      ∙ ap (λ (b : Body). (t, e) ∷ turns (steps_of names.Labels g.class b y.events) y.events) (body_moved m)

  pub before_moved : (side : Bool) {s t : Step} {e : Event} {x y : St} → Moved s t e x y → before side y ≡ (pick side s t, e) ∷ before side x
  before_moved true m = m.values_is
  before_moved false m = m.labels_is

  own_moved : {s t : Step} {e : Event} {x y : St} → Moved s t e x y → own x ≡ defined_at x.counts e.place ∷ own y
  own_moved {s} {t} {e} {x} {y} m =
      ap (λ es. numbers_from g.wording g.class x.counts es (result_counts es (begun g.words g.aliases es))) m.event_is
      ∙ ap (λ c. defined_at x.counts e.place ∷ numbers_from g.wording g.class c y.events (result_counts y.events (begun g.words g.aliases y.events))) (sym m.counts_is)

  -- Turns between two states, in which each region that begins ends
  pub record Listed (side d : Bool) (x y : St) : Type 0 where
    pub between : List Turn
    pub level : Level d between
    pub ahead_is : ahead side x ≡ between ++ ahead side y
    pub before_is : before side y ≡ pass (before side x) between
    pub own_is : drop (length between) (own x) ≡ own y

  pub listed_refl : (side d : Bool) (x : St) → Listed side d x x
  listed_refl side d x = record { between = []; level = level_end d; ahead_is = refl; before_is = refl; own_is = refl }

  pub listed_one : (side d : Bool) {s t : Step} {e : Event} {x y : St} → is_flat d (pick side s t) ≡ true → Moved s t e x y → Listed side d x y
  listed_one side d {s} {t} {e} h m = record {
    between = (pick side s t, e) ∷ [];
    level = level_step d (pick side s t) e h (level_end d);
    ahead_is = ahead_moved side m;
    before_is = before_moved side m;
    own_is = ap (drop 1) (own_moved m);
  }

  pub listed_join : {side d : Bool} {x y z : St} → Listed side d x y → Listed side d y z → Listed side d x z
  listed_join {side} {d} {x} {y} {z} a b = record {
    between = a.between ++ b.between;
    level = level_append b.between a.level b.level;
    ahead_is = a.ahead_is ∙ ap (λ ts. a.between ++ ts) b.ahead_is ∙ sym (append_assoc a.between b.between (ahead side z));
    before_is = b.before_is ∙ ap (λ ts. pass ts b.between) a.before_is ∙ sym (pass_append (before side x) a.between b.between);
    own_is = drop_more_is (own x) (own y) (own z) (length a.between) (length b.between) (length (a.between ++ b.between)) (length-append a.between b.between) a.own_is b.own_is;
  }

  both_opens : (side : Bool) → pick side steps.Opens steps.Opens ≡ steps.Opens
  both_opens true = refl
  both_opens false = refl

  both_closes : (side : Bool) → pick side steps.Closes steps.Closes ≡ steps.Closes
  both_closes true = refl
  both_closes false = refl

  pub ahead_opens : (side : Bool) {e : Event} {x y : St} → Moved steps.Opens steps.Opens e x y → ahead side x ≡ (steps.Opens, e) ∷ ahead side y
  ahead_opens side {e} {x} {y} m = ahead_moved side m ∙ ap (λ (s : Step). (s, e) ∷ ahead side y) (both_opens side)

  pub before_opens : (side : Bool) {e : Event} {x y : St} → Moved steps.Opens steps.Opens e x y → before side y ≡ (steps.Opens, e) ∷ before side x
  before_opens side {e} {x} m = before_moved side m ∙ ap (λ (s : Step). (s, e) ∷ before side x) (both_opens side)

  pub ahead_closes : (side : Bool) {e : Event} {x y : St} → Moved steps.Closes steps.Closes e x y → ahead side x ≡ (steps.Closes, e) ∷ ahead side y
  ahead_closes side {e} {x} {y} m = ahead_moved side m ∙ ap (λ (s : Step). (s, e) ∷ ahead side y) (both_closes side)

  pub before_closes : (side : Bool) {e : Event} {x y : St} → Moved steps.Closes steps.Closes e x y → before side y ≡ (steps.Closes, e) ∷ before side x
  before_closes side {e} {x} m = before_moved side m ∙ ap (λ (s : Step). (s, e) ∷ before side x) (both_closes side)

  -- a region
  pub listed_nest : (side d : Bool) {e f : Event} {a b c z : St} → Moved steps.Opens steps.Opens e a b → Listed side true b c → Moved steps.Closes steps.Closes f c z → Listed side d a z
  listed_nest side d {e} {f} {a} {b} {c} {z} m i l = record {
    between = (steps.Opens, e) ∷ (i.between ++ (steps.Closes, f) ∷ []);
    level = level_nest d e f i.level (level_end d);
    ahead_is = ahead_opens side m ∙ ap (λ ts. (steps.Opens, e) ∷ ts) (i.ahead_is ∙ ap (λ ts. i.between ++ ts) (ahead_closes side l) ∙ sym (append_assoc i.between ((steps.Closes, f) ∷ []) (ahead side z)));
    before_is = before_closes side l ∙ ap (λ ts. (steps.Closes, f) ∷ ts) (i.before_is ∙ ap (λ ts. pass ts i.between) (before_opens side m)) ∙ sym (pass_append ((steps.Opens, e) ∷ before side a) i.between ((steps.Closes, f) ∷ []));
    own_is = drop_more_is (own a) (own b) (own z) 1 (length (i.between ++ (steps.Closes, f) ∷ [])) (suc (length (i.between ++ (steps.Closes, f) ∷ []))) (omega arith) (ap (drop 1) (own_moved m))
        (drop_more_is (own b) (own c) (own z) (length i.between) 1 (length (i.between ++ (steps.Closes, f) ∷ [])) (length-append i.between ((steps.Closes, f) ∷ [])) i.own_is (ap (drop 1) (own_moved l)));
  }

  -- Numbers

  -- the numbers that are left stand where as many turns are before
  abbrev pub Aligned : Bool → St → Type 0
  Aligned side x = drop (length (before side x)) g.numbers ≡ own x

  pub aligned_listed : {side d : Bool} {x y : St} → Listed side d x y → Aligned side x → Aligned side y
  aligned_listed {side} {d} {x} {y} l h =
      drop_more_is g.numbers (own x) (own y) (length (before side x)) (length l.between) (length (before side y)) (ap length l.before_is ∙ length_pass (before side x) l.between) h l.own_is

  pub aligned_moved : (side : Bool) {s t : Step} {e : Event} {x y : St} → Moved s t e x y → Aligned side x → Aligned side y
  aligned_moved side {s} {t} {e} {x} {y} m h =
      drop_more_is g.numbers (own x) (own y) (length (before side x)) 1 (length (before side y)) (ap length (before_moved side m) ∙ one (length (before side x))) h (ap (drop 1) (own_moved m))
    where
      one : (n : ℕ) → suc n ≡ n + 1
      one n = omega arith

  pub number_here : (side : Bool) {s t : Step} {e : Event} {x y : St} → Moved s t e x y → Aligned side x → get_or g.numbers (length (before side x)) 0 ≡ defined_at x.counts e.place
  number_here side {s} {t} {e} {x} {y} m h = here_is g.numbers (length (before side x)) (defined_at x.counts e.place) (own y) (h ∙ own_moved m)
