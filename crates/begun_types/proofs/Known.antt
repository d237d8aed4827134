-- Each alias of a type that a text uses stands for something.
use Rattle.std.proofs.Common.{◌≡◌, ℕ, ◌+◌, ◌==◌, Bool, true, false, List, [], ◌∷◌, ◌++◌, map, Option, Some, None, refl, sym, ap, ◌∙◌, subst, true≢false}
use Rattle.std.specs.Prelude.{not, ◌&&◌, if◌then◌else◌}
use Rattle.std.proofs.lemmas.Bool.{eqb-true}
use Rattle.mlir_lex.proofs.Lengths.{eqb-refl}
use Rattle.line_grammar.specs.declared.Symbol.TheVariants as symbols
use Rattle.line_grammar.specs.Grammar.{Has, Reads, done, here, later, leaves, opens, takes}
use Rattle.line_grammar.specs.Conditions.{all_in, both}
use Rattle.line_grammar.specs.Language.{events}
use Rattle.text_grammar.specs.declared.kinds.Kind.{Kind}
use Rattle.text_grammar.specs.declared.places.Place.{Place}
use Rattle.text_grammar.specs.declared.places.Place.TheVariants as places
use Rattle.text_grammar.specs.declared.parts.Part.{Part}
use Rattle.text_grammar.specs.declared.parts.Part.TheVariants as parts
use Rattle.text_grammar.specs.declared.words.Word.{Word}
use Rattle.text_grammar.specs.Steps.{kind_of}
use Rattle.text_grammar.specs.Table.{TextLine, Wanted, generic, lines_of}
use Rattle.text_events.specs.declared.event.Event.{Event}
use Rattle.text_events.specs.declared.alias.AliasClass.{AliasClass}
use Rattle.text_events.specs.declared.alias.Defining.{Defining}
use Rattle.text_events.specs.declared.alias.Defining.TheVariants as defining
use Rattle.text_events.specs.declared.ending.EndKind.{EndKind}
use Rattle.text_events.specs.declared.look.Refusal.{Refusal}
use Rattle.text_events.specs.Aliases.{Aliases as Defined, Known, alias_fault, aliases_behind, begun, class_at, class_of, known_behind, no_aliases, no_integer, no_type}
use Rattle.text_events.specs.Language.{Before, ends_at, first_some, long_at, named, refused_at, step}
use Rattle.text_events.specs.Looking.{first_refusal, here_or_later}
use Rattle.text_events.specs.Names.{name_of, names_from}
use Rattle.text_events.specs.Source.{events_from, is_own}
use Rattle.term_table.specs.Terms.{nothing}
use Rattle.text_types.specs.Spelling.{Spelling}
use Rattle.text_types.specs.Items.{Aliases, begins, first_of, items}
use Rattle.text_types.specs.Aliases.{after, aliases_from, aliases_of, bound, defines, defines_new, is_nothing, is_start, piece}
use Rattle.text_types.specs.Marks.{arrow_next, closed, closed_at, first_or_false, marked, marked_at}
use Rattle.begun_types.specs.Begun.{AreBegun, AreServed, BegunAt, IsDefined, is_refused, uses_alias}
use Rattle.begun_types.proofs.Effects.{event, places_of}
use Rattle.begun_types.proofs.Wholes.{type_begins}
use Rattle.begun_types.proofs.Signs.{AllFit, AreApart, names_type}

-- No operation or definition begins in a type

abbrev is_type_part : Part → Bool
is_type_part parts.OneType = true
is_type_part parts.Types = true
is_type_part parts.MoreTypes = true
is_type_part parts.Results = true
is_type_part parts.AfterResults = true
is_type_part parts.InnerType = true
is_type_part parts.InnerTypes = true
is_type_part parts.MoreInnerTypes = true
is_type_part parts.InnerResults = true
is_type_part parts.AfterInnerResults = true
is_type_part parts.Dimensions = true
is_type_part parts.MemrefEnd = true
is_type_part parts.IntegerType = true
is_type_part parts.InnerIntegerType = true
is_type_part _ = false

abbrev is_inner : Wanted → Bool
is_inner (symbols.At p) = not (is_start p)
is_inner (symbols.Part n) = is_type_part n

abbrev is_inner_line : TextLine → Bool
is_inner_line line = both (not (is_start line.0)) (all_in is_inner line.1)

inner_lines : (n : Part) → is_type_part n ≡ true → all_in is_inner_line (lines_of n) ≡ true
inner_lines parts.OneType h = refl
inner_lines parts.Types h = refl
inner_lines parts.MoreTypes h = refl
inner_lines parts.Results h = refl
inner_lines parts.AfterResults h = refl
inner_lines parts.InnerType h = refl
inner_lines parts.InnerTypes h = refl
inner_lines parts.MoreInnerTypes h = refl
inner_lines parts.InnerResults h = refl
inner_lines parts.AfterInnerResults h = refl
inner_lines parts.Dimensions h = refl
inner_lines parts.MemrefEnd h = refl
inner_lines parts.IntegerType h = refl
inner_lines parts.InnerIntegerType h = refl
inner_lines _ h = absurd (true≢false (sym h))

first_in : (b c : Bool) → elim b [ true ↦ c | false ↦ false ] ≡ true → b ≡ true
first_in true c h = refl
first_in false c h = absurd (true≢false (sym h))

rest_in : (b c : Bool) → elim b [ true ↦ c | false ↦ false ] ≡ true → c ≡ true
rest_in true c h = h
rest_in false c h = absurd (true≢false (sym h))

both_in : {a b : Bool} → a ≡ true → b ≡ true → elim a [ true ↦ b | false ↦ false ] ≡ true
both_in {a} {b} h g = ap (λ x. elim x [ true ↦ b | false ↦ false ]) h ∙ g

all_join : (xs ys : List Wanted) → all_in is_inner xs ≡ true → all_in is_inner ys ≡ true → all_in is_inner (xs ++ ys) ≡ true
all_join [] ys h g = g
all_join (x ∷ xs) ys h g = both_in (first_in (is_inner x) (all_in is_inner xs) h) (all_join xs ys (rest_in (is_inner x) (all_in is_inner xs) h) g)

one_line : (lines : List TextLine) (line : TextLine) → Has line lines → all_in is_inner_line lines ≡ true → is_inner_line line ≡ true
one_line [] line has h = elim has [ ]
one_line (l ∷ ls) line (here xs) h = first_in (is_inner_line l) (all_in is_inner_line ls) h
one_line (l ∷ ls) line (later y has) h = one_line ls line has (rest_in (is_inner_line l) (all_in is_inner_line ls) h)

not_true : (b : Bool) → not b ≡ true → b ≡ false
not_true true h = sym h
not_true false h = refl

-- no word of these begins an operation or definition
abbrev pub NoStarts : List Place → Type 0
NoStarts [] = Unit {0}
NoStarts (p ∷ ps) = (is_start p ≡ false) × NoStarts ps

no_starts : {ss : List Wanted} {ps : List Place} {ks : List Kind} → Reads generic ss ps ks → all_in is_inner ss ≡ true → NoStarts ps
no_starts done h = tt
no_starts (takes p k {ss} f more) h = (not_true (is_start p) (first_in (not (is_start p)) (all_in is_inner ss) h), no_starts more (rest_in (not (is_start p)) (all_in is_inner ss) h))
no_starts (opens n line k {ss} has f more) h =
    let own = one_line (lines_of n) line has (inner_lines n (first_in (is_type_part n) (all_in is_inner ss) h)) in
    (not_true (is_start line.0) (first_in (not (is_start line.0)) (all_in is_inner line.1) own), no_starts more (all_join line.1 ss (rest_in (not (is_start line.0)) (all_in is_inner line.1) own) (rest_in (is_type_part n) (all_in is_inner ss) h)))
no_starts (leaves n {ss} e more) h = no_starts more (rest_in (is_type_part n) (all_in is_inner ss) h)

-- The piece of a definition

start_marked : (p : Place) (b c : Bool) → is_start p ≡ false → is_start (marked_at p b c) ≡ false
start_marked places.ResultsOpen b true h = refl
start_marked places.ResultsOpen b false h = refl
start_marked places.ResultsClose true c h = refl
start_marked places.ResultsClose false c h = refl
start_marked _ b c h = h

closed_join : (own behind : List Event) → arrow_next behind ≡ false → closed behind ≡ [] → closed (own ++ behind) ≡ closed own
closed_join [] behind a c = c
closed_join (e ∷ own) behind a c = ap (λ b. closed_at e.place b (closed (own ++ behind))) (arrow_join own) ∙ ap (closed_at e.place (arrow_next own)) (closed_join own behind a c)
  where
    arrow_join : (own : List Event) → arrow_next (own ++ behind) ≡ arrow_next own
    arrow_join [] = a
    arrow_join (e ∷ own) = refl

piece_marked : (own behind : List Event) → NoStarts (places_of own) → arrow_next behind ≡ false → closed behind ≡ [] → piece (marked behind) ≡ [] → piece (marked (own ++ behind)) ≡ marked own
piece_marked [] behind n a c p = p
piece_marked (e ∷ own) behind n a c p =
    ap (λ (b : Bool). if b then [] else (event (marked_at e.place (arrow_next (own ++ behind)) (first_or_false (closed (own ++ behind)))) e.name ∷ piece (marked (own ++ behind)))) (start_marked e.place _ _ n.0)
    ∙ ap (λ b. event (marked_at e.place b (first_or_false (closed (own ++ behind)))) e.name ∷ piece (marked (own ++ behind))) (arrow_join own)
    ∙ ap (λ cs. event (marked_at e.place (arrow_next own) (first_or_false cs)) e.name ∷ piece (marked (own ++ behind))) (closed_join own behind a c)
    ∙ ap (λ es. event (marked_at e.place (arrow_next own) (first_or_false (closed own))) e.name ∷ es) (piece_marked own behind n.1 a c p)
  where
    arrow_join : (own : List Event) → arrow_next (own ++ behind) ≡ arrow_next own
    arrow_join [] = a
    arrow_join (e ∷ own) = refl

-- Words at which nothing ends

-- no word is refused, and each alias is known where it is used
abbrev pub Unfaulted : Defined → List Event → Type 0
Unfaulted a [] = Unit {0}
Unfaulted a (e ∷ es) = (is_refused e.place ≡ false) × (alias_fault a.known e.place e.name ≡ None) × Unfaulted (aliases_behind a e.place e.name) es

none_here : (o : Option EndKind) (r : Option Refusal) → here_or_later o r ≡ None → o ≡ None
none_here None r h = refl
none_here (Some k) r h = absurd cc

none_later : (o : Option EndKind) (r : Option Refusal) → here_or_later o r ≡ None → r ≡ None
none_later None None h = refl
none_later None (Some r) h = absurd cc
none_later (Some k) r h = absurd cc

none_first : (o p : Option EndKind) → first_some o p ≡ None → o ≡ None
none_first None p h = refl
none_first (Some k) p h = absurd cc

none_second : (o p : Option EndKind) → first_some o p ≡ None → p ≡ None
none_second None p h = h
none_second (Some k) p h = absurd cc

refused_not : (n : ℕ) (p : Place) → refused_at n p ≡ None → is_refused p ≡ false
refused_not n places.DottedType h = absurd cc
refused_not n places.UnsupportedTypeWord h = absurd cc
refused_not n places.UnsupportedInnerWord h = absurd cc
refused_not n places.RefusedLayout h = absurd cc
refused_not n _ h = refl

-- the name of a word that is read by itself is not looked at
own_fault : (known : Known) (p : Place) (m n : ℕ) → is_own p ≡ true → alias_fault known p m ≡ alias_fault known p n
own_fault known places.TypeAlias m n h = absurd (true≢false (sym h))
own_fault known places.ElementAlias m n h = absurd (true≢false (sym h))
own_fault known places.AttrAlias m n h = absurd (true≢false (sym h))
own_fault known _ m n h = refl

own_class : (p : Place) (m n : ℕ) (known : Known) → is_own p ≡ true → class_at p m known ≡ class_at p n known
own_class places.TypeAlias m n known h = absurd (true≢false (sym h))
own_class _ m n known h = refl

own_begun : (d : Defining) (p : Place) (m n : ℕ) (known : Known) → is_own p ≡ true → begun d p m known ≡ begun d p n known
own_begun (defining.Named a) p m n known h = ap (defining.Valued a) (own_class p m n known h)
own_begun defining.Nothing p m n known h = refl
own_begun (defining.Valued a c) p m n known h = refl

behind_begun : (a : Defined) (p : Place) (m n : ℕ) → is_own p ≡ true → begun a.current p m a.known ≡ begun a.current p n a.known → aliases_behind a p m ≡ aliases_behind a p n
behind_begun a places.TypeAliasName m n h e = absurd (true≢false (sym h))
behind_begun a places.AttrAliasName m n h e = absurd (true≢false (sym h))
behind_begun a places.OpName m n h e = refl
behind_begun a places.ResultName m n h e = refl
behind_begun a places.TypeAliasEquals m n h e = refl
behind_begun a places.AttrAliasEquals m n h e = refl
behind_begun a _ m n h e = ap (λ (d : Defining). record { known = a.known; current = d }) e

own_behind : (a : Defined) (p : Place) (m n : ℕ) → is_own p ≡ true → aliases_behind a p m ≡ aliases_behind a p n
own_behind a p m n h = behind_begun a p m n h (own_begun a.current p m n a.known h)

named_so : {X : Type 0} (f : ℕ → X) (b : Bool) (own n : ℕ) → (b ≡ true → f own ≡ f n) → f (if b then own else n) ≡ f n
named_so f true own n h = h refl
named_so f false own n h = refl

pub unfaulted : (text : List ℕ) (all ws : List Word) (i : ℕ) (ps : List Place) (b : Before) → AllFit ps (map kind_of ws) → first_refusal b (events ps (named ws (names_from text all i ws))) ≡ None
    → Unfaulted b.aliases (events_from i ps (names_from text all i ws))
unfaulted text all ws i [] b f h = tt
unfaulted text all [] i (p ∷ ps) b f h = absurd f
unfaulted text all (w ∷ ws) i (p ∷ ps) b f h =
    let n = name_of text all i w in
    let rest = first_refusal (step b (p, record { word = w; name = n })) (events ps (named ws (names_from text all (i + 1) ws))) in
    let fault = none_here (ends_at b (p, record { word = w; name = n })) rest h in
    let refused = none_first (refused_at b.sizes p) (first_some (alias_fault b.aliases.known p n) (long_at p w)) fault in
    let alias = none_first (alias_fault b.aliases.known p n) (long_at p w) (none_second (refused_at b.sizes p) (first_some (alias_fault b.aliases.known p n) (long_at p w)) fault) in (
      refused_not b.sizes p refused,
      named_so (λ k. alias_fault b.aliases.known p k) (is_own p) i n (own_fault b.aliases.known p i n) ∙ alias,
      subst (λ (a : Defined). Unfaulted a (events_from (i + 1) ps (names_from text all (i + 1) ws))) (sym (named_so (λ k. aliases_behind b.aliases p k) (is_own p) i n (own_behind b.aliases p i n)))
          (unfaulted text all ws (i + 1) ps (step b (p, record { word = w; name = n })) f.1 (none_later (ends_at b (p, record { word = w; name = n })) rest h)),
    )

-- What aliases stand for

known_kept : (a : Defined) (p : Place) (n : ℕ) → is_start p ≡ false → (aliases_behind a p n).known ≡ a.known
known_kept a places.TypeAliasName n h = absurd (true≢false h)
known_kept a places.AttrAliasName n h = absurd (true≢false h)
known_kept a places.OpName n h = absurd (true≢false h)
known_kept a places.ResultName n h = absurd (true≢false h)
known_kept a places.TypeAliasEquals n h = refl
known_kept a places.AttrAliasEquals n h = refl
known_kept a _ n h = refl

record IsKnown (name : ℕ) (known : Known) : Type 0 where
  class : AliasClass
  is : class_of name known ≡ Some class

known_use : (known : Known) (p : Place) (n : ℕ) → uses_alias p ≡ true → alias_fault known p n ≡ None → IsKnown n known
known_use known places.TypeAlias n h f = by_class (class_of n known) refl f
  where
    by_class : (o : Option AliasClass) → class_of n known ≡ o → no_type o ≡ None → IsKnown n known
    by_class None e g = absurd cc
    by_class (Some c) e g = record { class = c; is = e }
known_use known places.ElementAlias n h f = by_class (class_of n known) refl f
  where
    by_class : (o : Option AliasClass) → class_of n known ≡ o → no_integer o ≡ None → IsKnown n known
    by_class None e g = absurd cc
    by_class (Some c) e g = record { class = c; is = e }
known_use known _ n h f = absurd (true≢false (sym h))

type_named : (p : Place) → uses_alias p ≡ true → names_type p ≡ true
type_named places.TypeAlias h = refl
type_named places.ElementAlias h = refl
type_named _ h = absurd (true≢false (sym h))

module _ (words : Spelling) (test : ℕ → Bool) where
  -- each alias of a type that is known stands for something
  abbrev Serves : Known → Aliases → Type 0
  Serves known env = (name : ℕ) → IsKnown name known → test name ≡ true → is_nothing (env name) ≡ false

  -- and so does the one that is defined
  abbrev Current : Defining → Aliases → Type 0
  Current defining.Nothing env = Unit {0}
  Current (defining.Named n) env = test n ≡ true → is_nothing (env n) ≡ false
  Current (defining.Valued n c) env = test n ≡ true → is_nothing (env n) ≡ false

  abbrev Grows : Aliases → Aliases → Type 0
  Grows env new = (name : ℕ) → is_nothing (env name) ≡ false → is_nothing (new name) ≡ false

  current_grows : (d : Defining) (env new : Aliases) → Grows env new → Current d env → Current d new
  current_grows defining.Nothing env new g h = tt
  current_grows (defining.Named n) env new g h = λ t. g n (h t)
  current_grows (defining.Valued n c) env new g h = λ t. g n (h t)

  one_more : (n : ℕ) (c : AliasClass) (known : Known) (env : Aliases) → (test n ≡ true → is_nothing (env n) ≡ false) → Serves known env → Serves ((n, c) ∷ known) env
  one_more n c known env h s = λ name k t. by_test name (n == name) refl k.is t
    where
      by_test : (name : ℕ) (b : Bool) → (n == name) ≡ b → {c' : AliasClass} → (if b then Some c else class_of name known) ≡ Some c' → test name ≡ true → is_nothing (env name) ≡ false
      by_test name true e k t = let same : n ≡ name = eqb-true n name e in subst (λ (m : ℕ). is_nothing (env m) ≡ false) same (h (ap test same ∙ t))
      by_test name false e {c'} k t = s name (record { class = c'; is = k }) t

  behind_serves : (d : Defining) (known : Known) (env : Aliases) → Current d env → Serves known env → Serves (known_behind d known) env
  behind_serves defining.Nothing known env h s = s
  behind_serves (defining.Named n) known env h s = s
  behind_serves (defining.Valued n c) known env h s = one_more n c known env h s

  begun_current : (d : Defining) (p : Place) (n : ℕ) (known : Known) (env : Aliases) → Current d env → Current (begun d p n known) env
  begun_current defining.Nothing p n known env h = h
  begun_current (defining.Named a) p n known env h = h
  begun_current (defining.Valued a c) p n known env h = h

  record Stands (a : Defined) (env : Aliases) : Type 0 where
    served : Serves a.known env
    current : Current a.current env

  step_stands : (p : Place) (n : ℕ) (a : Defined) (env new : Aliases) → Grows env new → (p ≡ places.TypeAliasName → is_nothing (new n) ≡ false) → (p ≡ places.AttrAliasName → test n ≡ false) → Stands a env → Stands (aliases_behind a p n) new
  step_stands p n a env new g type attr s = by_place p type attr
    where
      kept : Serves a.known new
      kept = λ name k t. g name (s.served name k t)

      current : Current a.current new
      current = current_grows a.current env new g s.current

      by_place : (p : Place) → (p ≡ places.TypeAliasName → is_nothing (new n) ≡ false) → (p ≡ places.AttrAliasName → test n ≡ false) → Stands (aliases_behind a p n) new
      by_place places.TypeAliasName type attr = record { served = behind_serves a.current a.known new current kept; current = λ t. type refl }
      by_place places.AttrAliasName type attr = record { served = behind_serves a.current a.known new current kept; current = λ t. absurd (true≢false (sym t ∙ attr refl)) }
      by_place places.OpName type attr = record { served = behind_serves a.current a.known new current kept; current = tt }
      by_place places.ResultName type attr = record { served = behind_serves a.current a.known new current kept; current = tt }
      by_place places.TypeAliasEquals type attr = record { served = kept; current = current }
      by_place places.AttrAliasEquals type attr = record { served = kept; current = current }
      by_place q type attr = record { served = kept; current = begun_current a.current q n a.known new current }

  -- an alias that stands for something goes on to do so
  kept_after : (env : Aliases) (e : Event) (es : List Event) → Grows env (after words env e es)
  kept_after env e es = λ name some. by_new name some (defines_new env e) refl
    where
      by_same : (name : ℕ) → is_nothing (env name) ≡ false → defines_new env e ≡ true → (b : Bool) → (name == e.name) ≡ b → is_nothing (if b then begins words env (piece es) else env name) ≡ false
      by_same name some d true h =
          let same : name ≡ e.name = eqb-true name e.name h in
          absurd (true≢false (sym (and_second (defines e.place) (is_nothing (env e.name)) d) ∙ ap (λ m. is_nothing (env m)) (sym same) ∙ some))
        where
          and_second : (a b : Bool) → (a && b) ≡ true → b ≡ true
          and_second true b h = h
          and_second false b h = absurd (true≢false (sym h))
      by_same name some d false h = some

      by_new : (name : ℕ) → is_nothing (env name) ≡ false → (b : Bool) → defines_new env e ≡ b → is_nothing ((if b then bound e.name (begins words env (piece es)) env else env) name) ≡ false
      by_new name some true d = by_same name some d (name == e.name) refl
      by_new name some false d = some

  kept_all : (es : List Event) (env : Aliases) → Grows env (aliases_from words env es)
  kept_all [] env = λ name some. some
  kept_all (e ∷ es) env = λ name some. kept_all es (after words env e es) name (kept_after env e es name some)

  -- and one that is defined as a type stands for something
  new_after : (env : Aliases) (n : ℕ) (es : List Event) → is_nothing (begins words env (piece es)) ≡ false → is_nothing (after words env (event places.TypeAliasName n) es n) ≡ false
  new_after env n es some = by_old (is_nothing (env n)) refl
    where
      by_old : (b : Bool) → is_nothing (env n) ≡ b → is_nothing ((if b then bound n (begins words env (piece es)) env else env) n) ≡ false
      by_old true h = ap (λ (b : Bool). is_nothing (if b then begins words env (piece es) else env n)) (eqb-refl n) ∙ some
      by_old false h = h

  -- what is used in the definition
  own_served : (own rest : List Event) (a : Defined) (env : Aliases) → Unfaulted a (own ++ rest) → NoStarts (places_of own) → AreApart test (own ++ rest) → Serves a.known env → AreServed env own
  own_served [] rest a env u n x s = tt
  own_served (e ∷ own) rest a env u n x s = (
    u.0,
    (λ h. s e.name (known_use a.known e.place e.name h u.1) (x.0 (type_named e.place h))),
    own_served own rest (aliases_behind a e.place e.name) env u.2 n.1 x.2 (subst (λ (k : Known). Serves k env) (sym (known_kept a e.place e.name n.0)) s),
  )

  defined_some : (n : ℕ) (es : List Event) (a : Defined) (env : Aliases) → IsDefined es → Unfaulted (aliases_behind a places.TypeAliasName n) es → AreApart test es → Stands a env → is_nothing (begins words env (piece (marked es))) ≡ false
  defined_some n es a env d u x s =
      let flat = no_starts d.reads refl in
      let known : Serves (known_behind a.current a.known) env = behind_serves a.current a.known env s.current s.served in
      let u' = subst (λ (xs : List Event). Unfaulted (aliases_behind a places.TypeAliasName n) xs) d.is u in
      let x' = subst (λ (xs : List Event). AreApart test xs) d.is x in
      let served = own_served d.own d.behind (aliases_behind a places.TypeAliasName n) env u'.2 flat x'.2 known in
      ap (λ xs. is_nothing (first_of (items words env (piece (marked xs))))) d.is
      ∙ ap (λ xs. is_nothing (first_of (items words env xs))) (piece_marked d.own d.behind flat d.shut d.closed_is d.ends)
      ∙ type_begins words env d.own d.kinds d.reads served

  -- All words of a text

  marked_plain : (p : Place) (b c : Bool) → p ≡ places.TypeAliasName → marked_at p b c ≡ places.TypeAliasName
  marked_plain p b c e = ap (λ q. marked_at q b c) e

  served_from : (other : Aliases) (es : List Event) (a : Defined) (env : Aliases) → Stands a env → Unfaulted a es → AreApart test es → AreBegun words other es → AreServed (aliases_from words env (marked es)) es
  served_from other [] a env s u x b = tt
  served_from other (e ∷ es) a env s u x b = (
    u.0,
    (λ h. kept_all (marked (e ∷ es)) env e.name (s.served e.name (known_use a.known e.place e.name h u.1) (x.0 (type_named e.place h)))),
    served_from other es (aliases_behind a e.place e.name) (after words env here (marked es))
        (step_stands e.place e.name a env (after words env here (marked es)) (kept_after env here (marked es)) type x.1 s) u.2 x.2 b.1,
  )
    where
      here : Event
      here = event (marked_at e.place (arrow_next es) (first_or_false (closed es))) e.name

      type : e.place ≡ places.TypeAliasName → is_nothing (after words env (event (marked_at e.place (arrow_next es) (first_or_false (closed es))) e.name) (marked es) e.name) ≡ false
      type h =
          ap (λ q. is_nothing (after words env (event q e.name) (marked es) e.name)) (marked_plain e.place _ _ h)
          ∙ new_after env e.name (marked es)
          (defined_some e.name es a env (subst (λ (q : Place). BegunAt words other q e es) h b.0) (subst (λ (q : Place). Unfaulted (aliases_behind a q e.name) es) h u.2) x.2 s)

  pub served : (other : Aliases) (es : List Event) → Unfaulted no_aliases es → AreApart test es → AreBegun words other es → AreServed (aliases_of words (marked es)) es
  served other es u x b = served_from other es no_aliases (λ _. nothing) (record { served = λ name k t. none k.is; current = tt }) u x b
    where
      none : {c : AliasClass} {X : Type 0} → ◌≡◌ {A = Option AliasClass} None (Some c) → X
      none e = absurd cc
