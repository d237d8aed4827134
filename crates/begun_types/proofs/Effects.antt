-- What each part of the grammar does to the terms behind it.
use Rattle.std.proofs.Common.{◌≡◌, ◌⊎◌, ℕ, ◌&&◌, Bool, true, false, List, [], ◌∷◌, ◌++◌, map, Option, append_assoc, refl, sym, ap, ◌∙◌, subst, true≢false}
use Rattle.line_grammar.specs.declared.Symbol.TheVariants as symbols
use Rattle.line_grammar.specs.Grammar.{Has, Reads, done, here, later, leaves, opens, takes}
use Rattle.line_grammar.specs.Conditions.{all_in}
use Rattle.text_grammar.specs.declared.kinds.Kind.{Kind}
use Rattle.text_grammar.specs.Places.{fits_at}
use Rattle.text_grammar.specs.declared.places.Place.{Place}
use Rattle.text_grammar.specs.declared.places.Place.TheVariants as places
use Rattle.text_grammar.specs.declared.parts.Part.{Part}
use Rattle.text_grammar.specs.declared.parts.Part.TheVariants as parts
use Rattle.text_grammar.specs.Table.{TextLine, Wanted, generic, lines_of}
use Rattle.text_events.specs.declared.event.Event.{Event}
use Rattle.term_table.specs.declared.node.Form.TheVariants as forms
use Rattle.term_table.specs.Terms.{Term, nothing}
use Rattle.text_types.specs.declared.action.Action.TheVariants.{Keep, Join, Wrap}
use Rattle.text_types.specs.Spelling.{Spelling}
use Rattle.text_types.specs.Actions.{opens_types, results_of}
use Rattle.text_types.specs.Items.{Aliases, acted, items, place_next}
use Rattle.text_types.specs.Aliases.{is_nothing, piece}
use Rattle.text_types.specs.Marks.{arrow_next, closed, closed_at, is_arrow, marked}
use Rattle.begun_types.specs.Begun.{AreBegun, BegunAt, are_types, is_refused, uses_alias}

abbrev pub event : Place → ℕ → Event
event place name = record { place = place; name = name }

-- words that are no mark of results and begin nothing that is looked at
abbrev pub is_tame : Place → Bool
is_tame places.SignatureOpen = false
is_tame places.ArgName = false
is_tame places.TypeAliasName = false
is_tame places.ResultsOpen = false
is_tame places.ResultsClose = false
is_tame _ = true

-- parts behind which, or at which, no arrow of a function type may stand
abbrev pub is_shut_part : Part → Bool
is_shut_part parts.AfterResults = false
is_shut_part parts.AfterInnerResults = false
is_shut_part parts.File = false
is_shut_part _ = true

abbrev pub is_shut : Wanted → Bool
is_shut (symbols.At places.FunctionArrow) = false
is_shut (symbols.At _) = true
is_shut (symbols.Part n) = is_shut_part n

abbrev pub start_shut : List Wanted → Bool
start_shut [] = true
start_shut (s ∷ ss) = is_shut s

abbrev pub are_tame : List Wanted → Bool
are_tame [] = true
are_tame (symbols.At p ∷ ss) = is_tame p && are_tame ss
are_tame (symbols.Part n ∷ ss) = is_shut_part n && (start_shut ss && are_tame ss)

abbrev pub is_tame_line : TextLine → Bool
is_tame_line line = is_shut (symbols.At line.0) && (is_tame line.0 && are_tame line.1)

-- tests
pub and_one : (a b : Bool) → (a && b) ≡ true → a ≡ true
and_one true b h = refl
and_one false b h = absurd (true≢false (sym h))

pub and_two : (a b : Bool) → (a && b) ≡ true → b ≡ true
and_two true b h = h
and_two false b h = absurd (true≢false (sym h))

first_in : (b c : Bool) → elim b [ true ↦ c | false ↦ false ] ≡ true → b ≡ true
first_in true c h = refl
first_in false c h = absurd (true≢false (sym h))

rest_in : (b c : Bool) → elim b [ true ↦ c | false ↦ false ] ≡ true → c ≡ true
rest_in true c h = h
rest_in false c h = absurd (true≢false (sym h))

pub one_in : (test : TextLine → Bool) (lines : List TextLine) (line : TextLine) → Has line lines → all_in test lines ≡ true → test line ≡ true
one_in test [] line has h = elim has [ ]
one_in test (l ∷ ls) line (here xs) h = first_in (test l) (all_in test ls) h
one_in test (l ∷ ls) line (later y has) h = one_in test ls line has (rest_in (test l) (all_in test ls) h)

shut_arrow : (p : Place) → is_shut (symbols.At p) ≡ true → is_arrow p ≡ false
shut_arrow places.FunctionArrow h = absurd (true≢false (sym h))
shut_arrow _ h = refl

tame_closed : (p : Place) (b : Bool) (cs : List Bool) → is_tame p ≡ true → closed_at p b cs ≡ cs
tame_closed places.ResultsOpen b cs h = absurd (true≢false (sym h))
tame_closed places.ResultsClose b cs h = absurd (true≢false (sym h))
tame_closed _ b cs h = refl

-- Readings

abbrev pub places_of : List Event → List Place
places_of es = map (λ (e : Event). e.place) es

places_join : (xs ys : List Event) → places_of (xs ++ ys) ≡ places_of xs ++ places_of ys
places_join [] ys = refl
places_join (x ∷ xs) ys = ap (λ ps. x.place ∷ ps) (places_join xs ys)

pub reads_join : {ss tt' : List Wanted} {ps qs : List Place} {ks js : List Kind} → Reads generic ss ps ks → Reads generic tt' qs js → Reads generic (ss ++ tt') (ps ++ qs) (ks ++ js)
reads_join done r = r
reads_join (takes p k f more) r = takes p k f (reads_join more r)
reads_join {tt'} {qs} {js} (opens n line k {ss} {ps} {ks} has f more) r =
    opens n line k has f (subst (λ (us : List Wanted). Reads generic us (ps ++ qs) (ks ++ js)) (append_assoc line.1 ss tt') (reads_join more r))
reads_join (leaves n e more) r = leaves n e (reads_join more r)

module _ (words : Spelling) (aliases : Aliases) where
  abbrev pub it : List Event → List Term
  it x = items words aliases (marked x)

  abbrev pub ahead : List Event → Option Place
  ahead x = place_next (marked x)

  -- one word
  pub record Takes (p : Place) (x y : List Event) : Type 0 where
    pub name : ℕ
    pub kind : Kind
    pub fits : fits_at p kind ≡ true
    pub is : x ≡ event p name ∷ y
    pub supported : is_refused p ≡ false
    pub stands : uses_alias p ≡ true → is_nothing (aliases name) ≡ false

  abbrev pub Begun : List Event → Type 0
  Begun x = AreBegun words aliases x

  -- what words leave of the marks, and that what begins in them does so
  pub record Quiet (x y : List Event) : Type 0 where
    pub closed_is : closed x ≡ closed y
    pub begun : Begun y → Begun x

  pub record Calm (x y : List Event) : Type 0 where
    pub quiet : Quiet x y
    pub shut : arrow_next x ≡ false

  -- terms with one more in front
  pub record ListOn (ts rest : List Term) : Type 0 where
    pub list : Term
    pub good : are_types list ≡ true
    pub is : ts ≡ list ∷ rest

  pub record SomeOn (ts rest : List Term) : Type 0 where
    pub term : Term
    pub some : is_nothing term ≡ false
    pub is : ts ≡ term ∷ rest

  -- one type
  pub record OneTerm (x y : List Event) : Type 0 where
    pub calm : Calm x y
    pub begins : SomeOn (it x) (it y)
    pub opens : opens_types (ahead x) ≡ Join forms.Types 0
    pub alone : results_of (ahead x) ≡ Wrap forms.Types 0

  -- types between two signs, or none
  pub record Several (x y : List Event) : Type 0 where
    pub calm : Calm x y
    pub begins : opens_types (ahead y) ≡ Keep → (l : Term) (rest : List Term) → are_types l ≡ true → it y ≡ l ∷ rest → (t : Term) → ListOn (acted t (opens_types (ahead x)) (it x)) rest

  -- types behind one, or none
  pub record More (x y : List Event) : Type 0 where
    pub calm : Calm x y
    pub begins : (l : Term) (rest : List Term) → are_types l ≡ true → it y ≡ l ∷ rest → ListOn (it x) rest

  -- types behind an arrow
  pub record Results (x y : List Event) : Type 0 where
    pub calm : Calm x y
    pub begins : (t : Term) → ListOn (acted t (results_of (ahead x)) (it x)) (it y)

  -- an arrow behind the results in parentheses
  pub record Arrowed (x y : List Event) : Type 0 where
    pub quiet : Quiet x y
    pub arrow : arrow_next x ≡ true
    pub begins : ListOn (it x) (it y)

  pub record Sizes (x y : List Event) : Type 0 where
    pub calm : Calm x y
    pub begins : (l : Term) (rest : List Term) → is_nothing l ≡ false → it y ≡ l ∷ rest → SomeOn (it x) rest

  pub record Ended (x y : List Event) : Type 0 where
    pub calm : Calm x y
    pub is : it x ≡ nothing ∷ it y

  -- a file, from here to the end of the text
  pub record Whole (x : List Event) : Type 0 where
    pub closed_is : closed x ≡ []
    pub begun : Begun x
    pub shut : arrow_next x ≡ false
    pub ends : piece (marked x) ≡ []

  -- what stands for each part, where no arrow stands behind it
  abbrev pub means : Part → List Event → List Event → Type 0
  means parts.OneType x y = OneTerm x y
  means parts.InnerType x y = OneTerm x y
  means parts.IntegerType x y = OneTerm x y
  means parts.InnerIntegerType x y = OneTerm x y
  means parts.Types x y = Several x y
  means parts.InnerTypes x y = Several x y
  means parts.MoreTypes x y = More x y
  means parts.MoreInnerTypes x y = More x y
  means parts.Results x y = Results x y
  means parts.InnerResults x y = Results x y
  means parts.AfterResults x y = (x ≡ y) ⊎ Arrowed x y
  means parts.AfterInnerResults x y = (x ≡ y) ⊎ Arrowed x y
  means parts.Dimensions x y = Sizes x y
  means parts.MemrefEnd x y = Ended x y
  means parts.File x y = y ≡ [] → Whole x
  means _ x y = Calm x y

  -- words that are read as these symbols
  pub record Sub (ss : List Wanted) (x y : List Event) : Type 0 where
    pub own : List Event
    pub kinds : List Kind
    pub reads : Reads generic ss (places_of own) kinds
    pub is : x ≡ own ++ y

  pub data Spans : List Wanted → List Event → List Event → Type 0 where
    spans_end : (x : List Event) → Spans [] x x
    spans_at : (p : Place) {ss : List Wanted} {x y z : List Event} → Takes p x y → Spans ss y z → Spans (symbols.At p ∷ ss) x z
    spans_part : (n : Part) {ss : List Wanted} {x y z : List Event} → Sub (symbols.Part n ∷ []) x y → (arrow_next y ≡ false → means n x y) → Spans ss y z → Spans (symbols.Part n ∷ ss) x z

  pub record Cut (xs ys : List Wanted) (x z : List Event) : Type 0 where
    pub mid : List Event
    pub front : Spans xs x mid
    pub back : Spans ys mid z

  pub cut : (xs ys : List Wanted) {x z : List Event} → Spans (xs ++ ys) x z → Cut xs ys x z
  cut [] ys {x} s = record { mid = x; front = spans_end x; back = s }
  cut (symbols.At p ∷ xs) ys (spans_at _ t s) = let c = cut xs ys s in record { mid = c.mid; front = spans_at p t c.front; back = c.back }
  cut (symbols.Part n ∷ xs) ys (spans_part _ u t s) = let c = cut xs ys s in record { mid = c.mid; front = spans_part n u t c.front; back = c.back }

  pub sub_of : (ss : List Wanted) {x y : List Event} → Spans ss x y → Sub ss x y
  sub_of [] (spans_end x) = record { own = []; kinds = []; reads = done; is = refl }
  sub_of (symbols.At p ∷ ss) (spans_at _ m s) =
      let r = sub_of ss s in record { own = event p m.name ∷ r.own; kinds = m.kind ∷ r.kinds; reads = takes p m.kind m.fits r.reads; is = m.is ∙ ap (λ es. event p m.name ∷ es) r.is }
  sub_of (symbols.Part n ∷ ss) {x} {y} (spans_part _ u t s) =
      let r = sub_of ss s in
      record {
        own = u.own ++ r.own;
        kinds = u.kinds ++ r.kinds;
        reads = subst (λ (ps : List Place). Reads generic (symbols.Part n ∷ ss) ps (u.kinds ++ r.kinds)) (sym (places_join u.own r.own)) (reads_join u.reads r.reads);
        is = u.is ∙ ap (λ es. u.own ++ es) r.is ∙ sym (append_assoc u.own r.own y);
      }

  -- Words that are quiet

  pub begun_more : {p : Place} {x y : List Event} (m : Takes p x y) → BegunAt words aliases p (event p m.name) y → Begun y → Begun x
  begun_more m h b = subst (λ (es : List Event). Begun es) (sym m.is) (h, b)

  tame_begun : (p : Place) (e : Event) (es : List Event) → is_tame p ≡ true → BegunAt words aliases p e es
  tame_begun places.SignatureOpen e es h = absurd (true≢false (sym h))
  tame_begun places.ArgName e es h = absurd (true≢false (sym h))
  tame_begun places.TypeAliasName e es h = absurd (true≢false (sym h))
  tame_begun _ e es h = tt

  pub shut_word : {p : Place} {x y : List Event} → is_arrow p ≡ false → Takes p x y → arrow_next x ≡ false
  shut_word h m = ap arrow_next m.is ∙ h

  pub quiet_word : {p : Place} {x y : List Event} → is_tame p ≡ true → Takes p x y → Quiet x y
  quiet_word {p} {x} {y} h m = record {
    closed_is = ap closed m.is ∙ tame_closed p (arrow_next y) (closed y) h;
    begun = begun_more m (tame_begun p (event p m.name) y h);
  }

  pub quiet_join : {x y z : List Event} → Quiet x y → Quiet y z → Quiet x z
  quiet_join a b = record { closed_is = a.closed_is ∙ b.closed_is; begun = λ h. a.begun (b.begun h) }

  pub quiet_refl : (x : List Event) → Quiet x x
  quiet_refl x = record { closed_is = refl; begun = λ h. h }

  pub calm_refl : {x : List Event} → arrow_next x ≡ false → Calm x x
  calm_refl {x} h = record { quiet = quiet_refl x; shut = h }

  pub calm_more : {p : Place} {x y z : List Event} → is_tame p ≡ true → is_arrow p ≡ false → Takes p x y → Quiet y z → Calm x z
  calm_more h a m q = record { quiet = quiet_join (quiet_word h m) q; shut = shut_word a m }

  pub calm_part : (n : Part) {x y : List Event} → is_shut_part n ≡ true → means n x y → Calm x y
  calm_part parts.AfterResults h m = absurd (true≢false (sym h))
  calm_part parts.AfterInnerResults h m = absurd (true≢false (sym h))
  calm_part parts.File h m = absurd (true≢false (sym h))
  calm_part parts.OneType h m = m.calm
  calm_part parts.InnerType h m = m.calm
  calm_part parts.IntegerType h m = m.calm
  calm_part parts.InnerIntegerType h m = m.calm
  calm_part parts.Types h m = m.calm
  calm_part parts.InnerTypes h m = m.calm
  calm_part parts.MoreTypes h m = m.calm
  calm_part parts.MoreInnerTypes h m = m.calm
  calm_part parts.Results h m = m.calm
  calm_part parts.InnerResults h m = m.calm
  calm_part parts.Dimensions h m = m.calm
  calm_part parts.MemrefEnd h m = m.calm
  calm_part _ h m = m

  pub record Tame (ss : List Wanted) (x y : List Event) : Type 0 where
    pub quiet : Quiet x y
    pub shut : start_shut ss ≡ true → arrow_next x ≡ false

  pub tame_spans : (ss : List Wanted) {x y : List Event} → are_tame ss ≡ true → Spans ss x y → arrow_next y ≡ false → Tame ss x y
  tame_spans [] h (spans_end x) e = record { quiet = quiet_refl x; shut = λ _. e }
  tame_spans (symbols.At p ∷ ss) h (spans_at _ m s) e =
      let rest = tame_spans ss (and_two (is_tame p) (are_tame ss) h) s e in
      record { quiet = quiet_join (quiet_word (and_one (is_tame p) (are_tame ss) h) m) rest.quiet; shut = λ k. shut_word (shut_arrow p k) m }
  tame_spans (symbols.Part n ∷ ss) h (spans_part _ u m s) e =
      let more = and_two (is_shut_part n) (start_shut ss && are_tame ss) h in
      let rest = tame_spans ss (and_two (start_shut ss) (are_tame ss) more) s e in
      let c = calm_part n (and_one (is_shut_part n) (start_shut ss && are_tame ss) h) (m (rest.shut (and_one (start_shut ss) (are_tame ss) more))) in
      record { quiet = quiet_join c.quiet rest.quiet; shut = λ k. c.shut }

  pub calm_line : (line : TextLine) {x a y : List Event} → is_tame_line line ≡ true → Takes line.0 x a → Spans line.1 a y → arrow_next y ≡ false → Calm x y
  calm_line line {x} {a} {y} h m s e =
      let more = and_two (is_shut (symbols.At line.0)) (is_tame line.0 && are_tame line.1) h in
      calm_more (and_one (is_tame line.0) (are_tame line.1) more) (shut_arrow line.0 (and_one (is_shut (symbols.At line.0)) (is_tame line.0 && are_tame line.1) h)) m
      (tame_spans line.1 (and_two (is_tame line.0) (are_tame line.1) more) s e).quiet

  -- parts whose lines are such
  pub part_line : (n : Part) (line : TextLine) {x a y : List Event} → all_in is_tame_line (lines_of n) ≡ true → Has line (lines_of n) → Takes line.0 x a → Spans line.1 a y → arrow_next y ≡ false → Calm x y
  part_line n line h has m s e = calm_line line (one_in is_tame_line (lines_of n) line has h) m s e
