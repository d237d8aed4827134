-- Aliases that stand for integer types, from the begin of a text on.
use Rattle.std.proofs.Common.{◌≡◌, ◌⊎◌, inl, inr, ℕ, zero, ◌==◌, Bool, true, false, List, [], ◌∷◌, length, Option, Some, None, refl, sym, ap, ◌∙◌, subst, true≢false}
use Rattle.std.specs.Prelude.{is_some, ◌&&◌, if◌then◌else◌}
use Rattle.mlir_lex.proofs.Lengths.{and-left, and-right, eqb-is, eqb-refl}
use Rattle.text_grammar.specs.declared.places.Place.{Place}
use Rattle.text_grammar.specs.declared.places.Place.TheVariants as places
use Rattle.term_table.specs.Terms.{Term, nothing, node}
use Rattle.text_events.specs.declared.alias.AliasClass.{AliasClass}
use Rattle.text_events.specs.declared.alias.AliasClass.TheVariants.{Integer, Other, Location}
use Rattle.text_events.specs.declared.alias.Defining.{Defining}
use Rattle.text_events.specs.declared.alias.Defining.TheVariants.{Nothing, Named, Valued}
use Rattle.text_events.specs.declared.event.Event.{Event}
use Rattle.text_events.specs.Aliases as text
use Rattle.text_events.specs.Source.{is_own}
use Rattle.text_types.specs.Marks.{marked_at}
use Rattle.text_events.specs.Aliases.{Known, aliases_behind, begun, class_at, class_of, class_or_other, known_behind, no_integer}
use Rattle.text_types.specs.Spelling.{Spelling}
use Rattle.text_types.specs.Actions.{integer_of}
use Rattle.text_types.specs.Aliases.{after, aliases_from, bound, defines, defines_new, is_nothing, is_start, piece}
use Rattle.text_types.specs.Items.{Aliases, acted, begins, first_of, items}
use Rattle.text_scopes.specs.declared.steps.Step.TheVariants as steps
use Rattle.text_scopes.specs.Seen.{Turn, again, defined, seen}
use Rattle.text_scopes.specs.Tables.{attr_alias_step, type_alias_step}
use Rattle.read_terms.proofs.Terms.{is_integer}
use Rattle.read_terms.proofs.Actions.{is_sized}

-- Aliases that keep what they stand for

abbrev pub Extends : Aliases → Aliases → Type 0
Extends old new = (m : ℕ) → is_nothing (old m) ≡ false → new m ≡ old m

extends_join : (a b c : Aliases) → Extends a b → Extends b c → Extends a c
extends_join a b c f g = λ m h. g m (ap is_nothing (f m h) ∙ h) ∙ f m h

pub integer_there : (t : Term) → is_integer t ≡ true → is_nothing t ≡ false
integer_there nothing h = absurd (true≢false (sym h))
integer_there (node form value left right) h = refl

module _ (words : Spelling) where
  pub extends_after : (a : Aliases) (e : Event) (es : List Event) → Extends a (after words a e es)
  extends_after a e es m h = by_new (defines_new a e) refl
    where
      by_name : (b : Bool) → (m == e.name) ≡ b → is_nothing (a e.name) ≡ true → (if b then begins words a (piece es) else a m) ≡ a m
      by_name true e1 n = absurd (true≢false (sym n ∙ ap (λ k. is_nothing (a k)) (sym (eqb-is m e.name e1)) ∙ h))
      by_name false e1 n = refl

      by_new : (b : Bool) → defines_new a e ≡ b → (if b then bound e.name (begins words a (piece es)) a else a) m ≡ a m
      by_new true e1 = by_name (m == e.name) refl (and-right (defines e.place) _ e1)
      by_new false e1 = refl

  pub extends_from : (a : Aliases) (es : List Event) → Extends a (aliases_from words a es)
  extends_from a [] m h = refl
  extends_from a (e ∷ es) m h = extends_join a (after words a e es) (aliases_from words (after words a e es) es) (extends_after a e es) (extends_from (after words a e es) es) m h

  -- what is told of the alias that is being defined, where these events are left
  abbrev pub Pending : Defining → Aliases → Aliases → List Event → Type 0
  Pending Nothing env later es = Unit {0}
  Pending (Named n) env later es = later n ≡ begins words env (piece es)
  Pending (Valued n Integer) env later es = is_integer (later n) ≡ true
  Pending (Valued n _) env later es = Unit {0}

  -- aliases of integer types stand for them
  abbrev pub KnownOk : Known → Aliases → Type 0
  KnownOk known env = (m : ℕ) → class_of m known ≡ Some Integer → is_integer (env m) ≡ true

  same_class : (c : AliasClass) → ◌≡◌ {A = Option AliasClass} (Some c) (Some Integer) → c ≡ Integer
  same_class Integer h = refl
  same_class Other h = absurd cc
  same_class Location h = absurd cc

  -- where an operation or a definition begins, the alias before it is known
  pub known_start : (current : Defining) (known : Known) (env later : Aliases) (es : List Event) → KnownOk known env → Extends env later → Pending current env later es → KnownOk (known_behind current known) later
  known_start Nothing known env later es k x p = λ m h. ap is_integer (x m (integer_there (env m) (k m h))) ∙ k m h
  known_start (Named n) known env later es k x p = λ m h. ap is_integer (x m (integer_there (env m) (k m h))) ∙ k m h
  known_start (Valued n c) known env later es k x p = λ m h. by_name m (n == m) refl h
    where
      pending : (c : AliasClass) → c ≡ Integer → Pending (Valued n c) env later es → is_integer (later n) ≡ true
      pending Integer h q = q
      pending Other h q = absurd cc
      pending Location h q = absurd cc

      by_name : (m : ℕ) (b : Bool) → (n == m) ≡ b → (if b then Some c else class_of m known) ≡ Some Integer → is_integer (later m) ≡ true
      by_name m true e h = ap (λ k. is_integer (later k)) (sym (eqb-is n m e)) ∙ pending c (same_class c h) p
      by_name m false e h = ap is_integer (x m (integer_there (env m) (k m h))) ∙ k m h

  -- behind a word of a definition

  pub pend_equals : (current : Defining) (env later : Aliases) (es fs : List Event) → begins words env (piece es) ≡ begins words env (piece fs) → Pending current env later es → Pending current env later fs
  pend_equals Nothing env later es fs e p = tt
  pend_equals (Named n) env later es fs e p = p ∙ e
  pend_equals (Valued n Integer) env later es fs e p = p
  pend_equals (Valued n _) env later es fs e p = tt

  integer_begins : (o : Option ℕ) (alias : Term) (ts : List Term) → is_sized o ≡ true → is_integer (first_of (acted alias (integer_of o) ts)) ≡ true
  integer_begins None alias ts s = refl
  integer_begins (Some w) alias ts s = s

  pub pend_word : (current : Defining) (known : Known) (env later : Aliases) (name other : ℕ) (es : List Event) → is_sized (words.width name) ≡ true
      → Pending current env later (record { place = places.IntegerWord; name = name } ∷ es) → Pending (begun current places.IntegerWord other known) env later es
  pend_word Nothing known env later name other es s p = tt
  pend_word (Named n) known env later name other es s p = ap is_integer p ∙ integer_begins (words.width name) (env name) (items words env (piece es)) s
  pend_word (Valued n Integer) known env later name other es s p = p
  pend_word (Valued n _) known env later name other es s p = tt

  pub pend_alias : (current : Defining) (known : Known) (env later : Aliases) (name : ℕ) (es : List Event) → KnownOk known env
      → Pending current env later (record { place = places.TypeAlias; name = name } ∷ es) → Pending (begun current places.TypeAlias name known) env later es
  pend_alias Nothing known env later name es k p = tt
  pend_alias (Named n) known env later name es k p = by_class (class_of name known) refl
    where
      by_class : (o : Option AliasClass) → class_of name known ≡ o → Pending (Valued n (class_or_other o)) env later es
      by_class None e = tt
      by_class (Some Integer) e = ap is_integer p ∙ k name e
      by_class (Some Other) e = tt
      by_class (Some Location) e = tt
  pend_alias (Valued n Integer) known env later name es k p = p
  pend_alias (Valued n _) known env later name es k p = tt

  -- behind any other word the alias is none of an integer type
  pend_rest : (p : Place) (current : Defining) (known : Known) (env later : Aliases) (name : ℕ) (es fs : List Event) → class_at p name known ≡ Other → Pending current env later es → Pending (begun current p name known) env later fs
  pend_rest q Nothing known env later name es fs c p = tt
  pend_rest q (Named n) known env later name es fs c p = subst (λ (x : AliasClass). Pending (Valued n x) env later fs) (sym c) tt
  pend_rest q (Valued n Integer) known env later name es fs c p = p
  pend_rest q (Valued n _) known env later name es fs c p = tt

  pend_loc : (current : Defining) (known : Known) (env later : Aliases) (name : ℕ) (es fs : List Event) → Pending current env later es → Pending (begun current places.LocWord name known) env later fs
  pend_loc Nothing known env later name es fs p = tt
  pend_loc (Named n) known env later name es fs p = tt
  pend_loc (Valued n Integer) known env later name es fs p = p
  pend_loc (Valued n _) known env later name es fs p = tt

  -- a word of a definition, or of an operation
  pub pend_moved : (p : Place) (x y : Bool) (own n : ℕ) (a : text.Aliases) (env later : Aliases) (es : List Event) → is_start p ≡ false → (p ≡ places.IntegerWord → is_sized (words.width own) ≡ true)
      → KnownOk a.known env → Pending a.current env later (record { place = marked_at p x y; name = if is_own p then own else n } ∷ es) → Pending (aliases_behind a p n).current env later es
  pend_moved places.OpName x y own n a env later es h s k p = absurd (true≢false h)
  pend_moved places.ResultName x y own n a env later es h s k p = absurd (true≢false h)
  pend_moved places.TypeAliasName x y own n a env later es h s k p = absurd (true≢false h)
  pend_moved places.AttrAliasName x y own n a env later es h s k p = absurd (true≢false h)
  pend_moved places.TypeAliasEquals x y own n a env later es h s k p = pend_equals a.current env later _ es refl p
  pend_moved places.AttrAliasEquals x y own n a env later es h s k p = pend_equals a.current env later _ es refl p
  pend_moved places.IntegerWord x y own n a env later es h s k p = pend_word a.current a.known env later own n es (s refl) p
  pend_moved places.TypeAlias x y own n a env later es h s k p = pend_alias a.current a.known env later n es k p
  pend_moved places.LocWord x y own n a env later es h s k p = pend_loc a.current a.known env later n _ es p
  pend_moved q x y own n a env later es h s k p = pend_rest q a.current a.known env later n _ es refl p

  -- a new alias stands for what its definition says
  pub named_new : (a : Aliases) (p : Place) (n : ℕ) (es : List Event) → defines p ≡ true → is_nothing (a n) ≡ true → after words a (record { place = p; name = n }) es n ≡ begins words a (piece es)
  named_new a p n es d h =
      ap (λ b. (if b && is_nothing (a n) then bound n (begins words a (piece es)) a else a) n) d ∙ ap (λ b. (if b then bound n (begins words a (piece es)) a else a) n) h
      ∙ ap (λ b. if b then begins words a (piece es) else a n) (eqb-refl n)

-- Names that are defined so far

abbrev pub Defined : ℕ → List Turn → Type 0
Defined m before = is_some (seen false m 0 before) ≡ true

type_kept : (p : Place) (e : Event) (m : ℕ) (before : List Turn) → Defined m before → Defined m ((type_alias_step p, e) ∷ before)
type_kept places.TypeAliasName e m before h = by_name (e.name == m)
  where
    by_name : (b : Bool) → is_some (defined zero b (length before) (seen false m 0 before)) ≡ true
    by_name true = refl
    by_name false = h
type_kept _ e m before h = h

attr_kept : (p : Place) (e : Event) (m : ℕ) (before : List Turn) → Defined m before → Defined m ((attr_alias_step p, e) ∷ before)
attr_kept places.AttrAliasName e m before h = by_name (e.name == m)
  where
    by_name : (b : Bool) → is_some (defined zero b (length before) (seen false m 0 before)) ≡ true
    by_name true = refl
    by_name false = h
attr_kept _ e m before h = h

module _ (words : Spelling) (bang hash : ℕ → Type 0) where
  -- what is defined so far, by the turns of both
  pub record Defs (later : Aliases) (bt ba : List Turn) : Type 0 where
    pub all : (m : ℕ) → is_nothing (later m) ≡ false → Defined m bt ⊎ Defined m ba
    pub bangs : (m : ℕ) → Defined m bt → bang m
    pub hashes : (m : ℕ) → Defined m ba → hash m

  pub no_defs : (later : Aliases) → ((m : ℕ) → is_nothing (later m) ≡ true) → Defs later [] []
  no_defs later n = record { all = λ m h. absurd (true≢false (sym (n m) ∙ h)); bangs = λ m h. absurd (true≢false (sym h)); hashes = λ m h. absurd (true≢false (sym h)) }

  type_bangs : (p : Place) (name : ℕ) (bt : List Turn) → (p ≡ places.TypeAliasName → bang name) → ((m : ℕ) → Defined m bt → bang m) → (m : ℕ) → Defined m ((type_alias_step p, record { place = p; name = name }) ∷ bt) → bang m
  type_bangs places.TypeAliasName name bt h old m d = by_name (name == m) refl d
    where
      by_name : (b : Bool) → (name == m) ≡ b → is_some (defined zero b (length bt) (seen false m 0 bt)) ≡ true → bang m
      by_name true e k = subst bang (eqb-is name m e) (h refl)
      by_name false e k = old m k
  type_bangs _ name bt h old m d = old m d

  attr_hashes : (p : Place) (name : ℕ) (ba : List Turn) → (p ≡ places.AttrAliasName → hash name) → ((m : ℕ) → Defined m ba → hash m) → (m : ℕ) → Defined m ((attr_alias_step p, record { place = p; name = name }) ∷ ba) → hash m
  attr_hashes places.AttrAliasName name ba h old m d = by_name (name == m) refl d
    where
      by_name : (b : Bool) → (name == m) ≡ b → is_some (defined zero b (length ba) (seen false m 0 ba)) ≡ true → hash m
      by_name true e k = subst hash (eqb-is name m e) (h refl)
      by_name false e k = old m k
  attr_hashes _ name ba h old m d = old m d

  abbrev Both : Place → ℕ → List Turn → List Turn → ℕ → Type 0
  Both p name bt ba m = Defined m ((type_alias_step p, record { place = p; name = name }) ∷ bt) ⊎ Defined m ((attr_alias_step p, record { place = p; name = name }) ∷ ba)

  here_defined : (p : Place) (name : ℕ) (bt ba : List Turn) → defines p ≡ true → Both p name bt ba name
  here_defined places.TypeAliasName name bt ba h = inl (ap (λ b. is_some (defined zero b (length bt) (seen false name 0 bt))) (eqb-refl name))
  here_defined places.AttrAliasName name bt ba h = inr (ap (λ b. is_some (defined zero b (length ba) (seen false name 0 ba))) (eqb-refl name))
  here_defined _ name bt ba h = absurd (true≢false (sym h))

  both_kept : (p : Place) (name : ℕ) (bt ba : List Turn) (m : ℕ) → Defined m bt ⊎ Defined m ba → Both p name bt ba m
  both_kept p name bt ba m (inl h) = inl (type_kept p (record { place = p; name = name }) m bt h)
  both_kept p name bt ba m (inr h) = inr (attr_kept p (record { place = p; name = name }) m ba h)

  -- behind an event, which stands at this place among the marked ones
  pub defs_moved : (later : Aliases) (bt ba : List Turn) (p q : Place) (name : ℕ) (es : List Event) → defines q ≡ defines p → (p ≡ places.TypeAliasName → bang name) → (p ≡ places.AttrAliasName → hash name) → Defs later bt ba
      → Defs (after words later (record { place = q; name = name }) es) ((type_alias_step p, record { place = p; name = name }) ∷ bt) ((attr_alias_step p, record { place = p; name = name }) ∷ ba)
  defs_moved later bt ba p q name es same b h d = record {
    all = λ m k. by_new m (defines_new later (record { place = q; name = name })) refl k;
    bangs = type_bangs p name bt b d.bangs;
    hashes = attr_hashes p name ba h d.hashes;
  }
    where
      by_name : (m : ℕ) (t : Bool) → (m == name) ≡ t → defines p ≡ true → is_nothing (if t then begins words later (piece es) else later m) ≡ false → Both p name bt ba m
      by_name m true e is k = subst (λ (n : ℕ). Both p name bt ba n) (sym (eqb-is m name e)) (here_defined p name bt ba is)
      by_name m false e is k = both_kept p name bt ba m (d.all m k)

      by_new : (m : ℕ) (t : Bool) → defines_new later (record { place = q; name = name }) ≡ t → is_nothing ((if t then bound name (begins words later (piece es)) later else later) m) ≡ false → Both p name bt ba m
      by_new m true e k = by_name m (m == name) refl (sym same ∙ and-left _ _ e) k
      by_new m false e k = both_kept p name bt ba m (d.all m k)

  -- an alias that isn't defined before stands for nothing
  pub type_new : (later : Aliases) (bt ba : List Turn) (name : ℕ) (e : Event) → ((m : ℕ) → bang m → hash m → ⊥) → bang name → e.name ≡ name → again false bt (steps.Defines, e) ≡ false → Defs later bt ba → is_nothing (later name) ≡ true
  type_new later bt ba name e apart b is a d = by_test (is_nothing (later name)) refl
    where
      not_again : Defined name bt → ⊥
      not_again h = true≢false (sym h ∙ ap (λ (n : ℕ). is_some (seen false n 0 bt)) (sym is) ∙ a)

      by_seen : Defined name bt ⊎ Defined name ba → ⊥
      by_seen (inl h) = not_again h
      by_seen (inr h) = apart name b (d.hashes name h)

      by_test : (t : Bool) → is_nothing (later name) ≡ t → t ≡ true
      by_test true h = refl
      by_test false h = absurd (by_seen (d.all name h))

  pub attr_new : (later : Aliases) (bt ba : List Turn) (name : ℕ) (e : Event) → ((m : ℕ) → bang m → hash m → ⊥) → hash name → e.name ≡ name → again false ba (steps.Defines, e) ≡ false → Defs later bt ba → is_nothing (later name) ≡ true
  attr_new later bt ba name e apart b is a d = by_test (is_nothing (later name)) refl
    where
      not_again : Defined name ba → ⊥
      not_again h = true≢false (sym h ∙ ap (λ (n : ℕ). is_some (seen false n 0 ba)) (sym is) ∙ a)

      by_seen : Defined name bt ⊎ Defined name ba → ⊥
      by_seen (inl h) = apart name (d.bangs name h) b
      by_seen (inr h) = not_again h

      by_test : (t : Bool) → is_nothing (later name) ≡ t → t ≡ true
      by_test true h = refl
      by_test false h = absurd (by_seen (d.all name h))
