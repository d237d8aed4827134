-- What the grammar reads keeps terms fine.
use Rattle.std.proofs.Common.{◌≡◌, ◌⊎◌, inl, inr, ℕ, ◌<◌, ◌≤◌, Bool, true, false, List, [], ◌∷◌, ◌++◌, take, drop, Option, Some, None, refl, sym, ap, ◌∙◌, subst, true≢false}
use Rattle.line_grammar.specs.declared.Symbol.TheVariants as symbols
use Rattle.line_grammar.specs.Grammar.{Has, here, later, Reads, done, takes, opens, leaves}
use Rattle.line_grammar.specs.Conditions.{both, all_in}
use Rattle.text_grammar.specs.declared.kinds.Kind.{Kind}
use Rattle.text_grammar.specs.declared.places.Place.{Place}
use Rattle.text_grammar.specs.declared.places.Place.TheVariants as places
use Rattle.text_grammar.specs.declared.parts.Part.{Part}
use Rattle.text_grammar.specs.declared.parts.Part.TheVariants as parts
use Rattle.text_grammar.specs.Table.{TextLine, Wanted, at, some, empty_at, generic, lines_of}
use Rattle.term_table.specs.Terms.{Term}
use Rattle.text_events.specs.declared.event.Event.{Event}
use Rattle.text_types.specs.Spelling.{Spelling}
use Rattle.text_types.specs.Actions.{actions_at}
use Rattle.text_types.specs.Aliases.{is_start}
use Rattle.text_types.specs.Items.{Aliases, acted, acted_both, items, place_next}
use Rattle.text_types.specs.Marks.{marked_at}
use Rattle.text_forms.specs.Forms.{Run, run_end, run_more}
use Rattle.type_kinds.specs.Ranges.{Listed, next_width, number_width, term_width, unfits, unfits_some, written_width}
use Rattle.read_terms.proofs.Terms.{bits_in, is_integer}
use Rattle.read_terms.proofs.Actions.{all_fine, boring_fine, is_boring}
use Rattle.read_terms.proofs.Fits.{not_ninth, one_size, term_narrow}
use Rattle.read_terms.proofs.Steps.{EnvFine, FineAt, State, Step, event_of}
use Rattle.read_terms.proofs.Parts.{IntegerFirst, ListFirst, TailFirst, array_made, boring_marked, colon_next, element_tail, element_word, integer_all, listed_more, memref_made, minus_listed, minus_made, number_made, quiet_boring, size_more, sound_marked}

-- places at which a type or attribute of an operation, or the definition of an alias, begins
abbrev pub is_telling : Place → Bool
is_telling places.PropsOpen = true
is_telling places.DictOpen = true
is_telling places.SignatureOpen = true
is_telling places.ArgName = true
is_telling places.TypeAliasName = true
is_telling places.AttrAliasName = true
is_telling _ = false

-- Lines and parts of boring words

abbrev is_boring_part : Part → Bool
is_boring_part parts.Dimensions = false
is_boring_part parts.IntegerType = false
is_boring_part parts.InnerIntegerType = false
is_boring_part parts.Numbers = false
is_boring_part parts.MoreNumbers = false
is_boring_part parts.ListNumber = false
is_boring_part _ = true

abbrev is_boring_symbol : Wanted → Bool
is_boring_symbol (symbols.At p) = is_boring p
is_boring_symbol (symbols.Part n) = is_boring_part n

abbrev is_boring_line : TextLine → Bool
is_boring_line line = both (is_boring line.0) (all_in is_boring_symbol line.1)

first_of : (b c : Bool) → elim b [ true ↦ c | false ↦ false ] ≡ true → b ≡ true
first_of true c h = refl
first_of false c h = absurd (true≢false (sym h))

rest_of : (b c : Bool) → elim b [ true ↦ c | false ↦ false ] ≡ true → c ≡ true
rest_of true c h = h
rest_of false c h = absurd (true≢false (sym h))

both_first : (a b : Bool) → both a b ≡ true → a ≡ true
both_first true b h = refl
both_first false b h = absurd (true≢false (sym h))

both_second : (a b : Bool) → both a b ≡ true → b ≡ true
both_second true b h = h
both_second false b h = absurd (true≢false (sym h))

one_is : (lines : List TextLine) (line : TextLine) → Has line lines → all_in is_boring_line lines ≡ true → is_boring_line line ≡ true
one_is [] line has h = elim has [ ]
one_is (l ∷ ls) line (here xs) h = first_of (is_boring_line l) (all_in is_boring_line ls) h
one_is (l ∷ ls) line (later y has) h = one_is ls line has (rest_of (is_boring_line l) (all_in is_boring_line ls) h)

has_either : (ls ms : List TextLine) (line : TextLine) → Has line (ls ++ ms) → Has line ls ⊎ Has line ms
has_either [] ms line has = inr has
has_either (l ∷ ls) ms line (here xs) = inl (here ls)
has_either (l ∷ ls) ms line (later y has) = by_cases (has_either ls ms line has)
  where
    by_cases : Has line ls ⊎ Has line ms → Has line (l ∷ ls) ⊎ Has line ms
    by_cases (inl h) = inl (later l h)
    by_cases (inr h) = inr h

-- the lines with words that do more, and what stands behind
abbrev memref_line : Part → List Wanted → TextLine
memref_line element more = (places.MemrefWord, at places.MemrefLess ∷ some parts.Dimensions ∷ some element ∷ some parts.MemrefEnd ∷ more)

abbrev number_line : List Wanted → TextLine
number_line more = (places.IntegerNumber, some parts.NumberType ∷ more)

abbrev minus_line : List Wanted → TextLine
minus_line more = (places.IntegerMinus, at places.IntegerNumber ∷ some parts.NumberType ∷ more)

abbrev array_line : List Wanted → TextLine
array_line more = (places.NumbersWord, at places.NumbersLess ∷ at places.NumbersWidth ∷ some parts.Numbers ∷ at places.NumbersGreater ∷ more)

module _ (words : Spelling) (final : Aliases) (evs : State → List Event) (env : State → Aliases) (Told : State → Type 0)
    (moved : (p : Place) (x y : State) (m : Step words final p x y) → is_start p ≡ false → evs x ≡ event_of words final p x y m ∷ evs y)
    (same_env : (p : Place) (x y : State) → Step words final p x y → is_start p ≡ false → env x ≡ env y)
    (same_widths : (x : State) → number_width words final x.events ≡ number_width words final (evs x))
    (integer : (x y : State) (m : Step words final places.ElementAlias x y) → (is_integer (env x m.name) ≡ true) × (final m.name ≡ env x m.name))
    (start_fine : (p : Place) (x y : State) → Step words final p x y → is_start p ≡ true → FineAt words (env y) (evs y) → FineAt words (env x) (evs x))
    (start_quiet : (p : Place) (x y : State) → Step words final p x y → is_start p ≡ true → colon_next (evs x) ≡ false)
    (tell : (p : Place) (x y : State) → Step words final p x y → (is_telling p ≡ true → FineAt words (env x) (evs x) × FineAt words (env y) (evs y)) → Told y → Told x) where
  abbrev T : Place → State → State → Type 0
  T p x y = Step words final p x y

  abbrev its : State → List Term
  its x = items words (env x) (evs x)

  abbrev width_next : State → Option ℕ
  width_next x = next_width words final (evs x)

  abbrev width_here : State → Option ℕ
  width_here x = number_width words final (evs x)

  abbrev Sure : State → Type 0
  Sure x = EnvFine words (env x)

  -- terms are fine, and behind the colon of a number stands a type of numbers
  pub record Ready (x : State) : Type 0 where
    pub fine : FineAt words (env x) (evs x)
    pub colon : Sure x → colon_next (evs x) ≡ true → IntegerFirst words.number (width_here x) (its x)
    pub told : Told x

  -- sizes and an element stand first, a type of numbers, or numbers of an array
  pub record Tail (x : State) : Type 0 where
    pub first : Sure x → TailFirst words.number x.sizes (its x)
    pub told : Told x

  pub record Integer (x : State) : Type 0 where
    pub few : x.sizes ≤ 8
    pub first : Sure x → IntegerFirst words.number (width_next x) (its x)
    pub told : Told x

  pub record Listing (x : State) : Type 0 where
    pub first : Sure x → ListFirst words.number x.listed.width (its x)
    pub told : Told x

  pub record Lists (x y : State) : Type 0 where
    pub same : y.listed.width ≡ x.listed.width
    pub goes : Listing y → Listing x

  -- what stands for each part
  abbrev means : Part → State → State → Type 0
  means parts.Dimensions = λ x y. Tail y → Tail x
  means parts.IntegerType = λ x y. Ready y → Integer x
  means parts.InnerIntegerType = λ x y. Ready y → Integer x
  means parts.Numbers = Lists
  means parts.MoreNumbers = Lists
  means parts.ListNumber = Lists
  means _ = λ x y. Ready y → Ready x

  -- and for symbols
  pub data Spans : List Wanted → State → State → Type 0 where
    spans_end : (x : State) → Spans [] x x
    spans_at : (p : Place) {ss : List Wanted} {x y z : State} → T p x y → Spans ss y z → Spans (symbols.At p ∷ ss) x z
    spans_part : (n : Part) {ss : List Wanted} {x y z : State} → means n x y → Spans ss y z → Spans (symbols.Part n ∷ ss) x z

  pub record Cut (xs ys : List Wanted) (x z : State) : Type 0 where
    pub mid : State
    pub front : Spans xs x mid
    pub back : Spans ys mid z

  cut : (xs ys : List Wanted) {x z : State} → Spans (xs ++ ys) x z → Cut xs ys x z
  cut [] ys {x} s = record { mid = x; front = spans_end x; back = s }
  cut (symbols.At p ∷ xs) ys (spans_at _ t s) = let c = cut xs ys s in record { mid = c.mid; front = spans_at p t c.front; back = c.back }
  cut (symbols.Part n ∷ xs) ys (spans_part _ t s) = let c = cut xs ys s in record { mid = c.mid; front = spans_part n t c.front; back = c.back }

  -- One word

  its_moved : (p : Place) (x y : State) (m : T p x y) → is_start p ≡ false
      → its x ≡ acted_both (env x m.name) (actions_at words (marked_at p m.arrow m.inner) m.name (place_next (evs y))) (its y)
  its_moved p x y m h =
      ap (items words (env x)) (moved p x y m h)
      ∙ ap (λ a. acted_both (env x m.name) (actions_at words (marked_at p m.arrow m.inner) m.name (place_next (evs y))) (items words a (evs y))) (same_env p x y m h)

  sure : (p : Place) (x y : State) → T p x y → is_start p ≡ false → Sure x → Sure y
  sure p x y m h s = subst (EnvFine words) (same_env p x y m h) s

  boring_step : (p : Place) (x y : State) → is_boring p ≡ true → T p x y → FineAt words (env y) (evs y) → FineAt words (env x) (evs x)
  boring_step p x y h m f = by_start (is_start p) refl
    where
      by_start : (b : Bool) → is_start p ≡ b → FineAt words (env x) (evs x)
      by_start true e = start_fine p x y m e f
      by_start false e = λ s. subst (all_fine words.number) (sym (its_moved p x y m e))
          (boring_fine words (marked_at p m.arrow m.inner) m.name (place_next (evs y)) (env x m.name) (its y) (boring_marked p m.arrow m.inner h) (sound_marked words p m.name m.arrow m.inner m.sound) (s m.name) (f (sure p x y m e s)))

  boring_quiet : (p : Place) (x y : State) → is_boring p ≡ true → T p x y → colon_next (evs x) ≡ false
  boring_quiet p x y h m = by_start (is_start p) refl
    where
      by_start : (b : Bool) → is_start p ≡ b → colon_next (evs x) ≡ false
      by_start true e = start_quiet p x y m e
      by_start false e = ap colon_next (moved p x y m e) ∙ quiet_boring (marked_at p m.arrow m.inner) (boring_marked p m.arrow m.inner h)

  boring_ready : (p : Place) (x y : State) → is_boring p ≡ true → T p x y → Ready y → Ready x
  boring_ready p x y h m r = record {
    fine = boring_step p x y h m r.fine;
    colon = λ s c. absurd (true≢false (sym c ∙ boring_quiet p x y h m));
    told = tell p x y m (λ t. (boring_step p x y h m r.fine, r.fine)) r.told;
  }

  boring_means : (n : Part) → is_boring_part n ≡ true → (x y : State) → means n x y → Ready y → Ready x
  boring_means parts.Dimensions h x y m = absurd (true≢false (sym h))
  boring_means parts.IntegerType h x y m = absurd (true≢false (sym h))
  boring_means parts.InnerIntegerType h x y m = absurd (true≢false (sym h))
  boring_means parts.Numbers h x y m = absurd (true≢false (sym h))
  boring_means parts.MoreNumbers h x y m = absurd (true≢false (sym h))
  boring_means parts.ListNumber h x y m = absurd (true≢false (sym h))
  boring_means _ h x y m = m

  boring_spans : (ss : List Wanted) {x y : State} → all_in is_boring_symbol ss ≡ true → Spans ss x y → Ready y → Ready x
  boring_spans [] h (spans_end x) r = r
  boring_spans (symbols.At p ∷ ss) h (spans_at _ t s) r =
      boring_ready p _ _ (first_of (is_boring p) (all_in is_boring_symbol ss) h) t (boring_spans ss (rest_of (is_boring p) (all_in is_boring_symbol ss) h) s r)
  boring_spans (symbols.Part n ∷ ss) h (spans_part _ t s) r =
      boring_means n (first_of (is_boring_part n) (all_in is_boring_symbol ss) h) _ _ t (boring_spans ss (rest_of (is_boring_part n) (all_in is_boring_symbol ss) h) s r)

  boring_line : (line : TextLine) {x a y : State} → is_boring_line line ≡ true → T line.0 x a → Spans line.1 a y → Ready y → Ready x
  boring_line line h t s r =
      boring_ready line.0 _ _ (both_first (is_boring line.0) (all_in is_boring_symbol line.1) h) t (boring_spans line.1 (both_second (is_boring line.0) (all_in is_boring_symbol line.1) h) s r)

  untold : (p : Place) (x y : State) → is_telling p ≡ false → T p x y → Told y → Told x
  untold p x y h m t = tell p x y m (λ c. absurd (true≢false (sym c ∙ h))) t

  -- Memrefs

  tail_kept : (p : Place) (x y : State) (m : T p x y) → is_start p ≡ false → is_telling p ≡ false → its x ≡ its y → y.sizes ≡ x.sizes → Tail y → Tail x
  tail_kept p x y m h k e z t = record {
    first = λ s. subst (λ (n : ℕ). TailFirst words.number n (its x)) z (subst (TailFirst words.number y.sizes) (sym e) (t.first (sure p x y m h s)));
    told = untold p x y k m t.told;
  }

  size_tail : (x y : State) → T places.DimensionSize x y → Tail y → Tail x
  size_tail x y m t =
      let less : x.sizes < 8 = not_ninth x.sizes m.allowed in
      record {
        first = λ s. subst (TailFirst words.number x.sizes) (sym (its_moved places.DimensionSize x y m refl))
            (size_more words.number (words.size m.name) (env x m.name) x.sizes y.sizes (its y) m.inside less (one_size x.sizes y.sizes less m.sizes_is) (t.first (sure places.DimensionSize x y m refl s)));
        told = untold places.DimensionSize x y refl m t.told;
      }

  dimensions_line : (line : TextLine) {x a y : State} → Has line (lines_of parts.Dimensions) → T line.0 x a → Spans line.1 a y → Tail y → Tail x
  dimensions_line line {x} {a} (here _) t (spans_at _ {y = b} by (spans_part _ d (spans_end _))) r =
      size_tail x a t (tail_kept places.DimensionBy a b by refl refl (its_moved places.DimensionBy a b by refl) by.sizes_is (d r))
  dimensions_line line (later _ x) t _ r = elim x [ ]

  word_integer : (x y : State) → T places.ElementWord x y → Ready y → Integer x
  word_integer x y m r = record {
    few = m.few;
    first = λ s. subst (λ w. IntegerFirst words.number w (its x)) (sym (ap (next_width words final) (moved places.ElementWord x y m refl)))
        (subst (IntegerFirst words.number (Some (written_width (words.width m.name)))) (sym (its_moved places.ElementWord x y m refl))
        (element_word words.number (words.width m.name) (env x m.name) (its y) m.sound (r.fine (sure places.ElementWord x y m refl s))));
    told = untold places.ElementWord x y refl m r.told;
  }

  alias_integer : (x y : State) → T places.ElementAlias x y → Ready y → Integer x
  alias_integer x y m r =
      let i = integer x y m in
      let w : next_width words final (evs x) ≡ Some (bits_in (env x m.name)) = ap (next_width words final) (moved places.ElementAlias x y m refl) ∙ ap (λ t. Some (term_width t)) i.1 ∙ ap Some (term_narrow (env x m.name) i.0) in
      record {
        few = m.few;
        first = λ s. subst (IntegerFirst words.number (width_next x)) (sym (its_moved places.ElementAlias x y m refl)) (i.0, w, r.fine (sure places.ElementAlias x y m refl s));
        told = untold places.ElementAlias x y refl m r.told;
      }

  never : {A : Type 0} (o : Option A) (e : A) → ◌≡◌ {A = Option A} (Some e) None → ⊥
  never o e h = cc

  integer_line : (line : TextLine) {x a y : State} → Has line (lines_of parts.IntegerType) → T line.0 x a → Spans line.1 a y → Ready y → Integer x
  integer_line line {x} {a} (here _) t (spans_end _) r = word_integer x a t r
  integer_line line {x} {a} (later _ (here _)) t (spans_end _) r = alias_integer x a t r
  integer_line line (later _ (later _ (here _))) t s r = absurd (never None _ t.allowed)
  integer_line line (later _ (later _ (later _ (here _)))) t s r = absurd (never None _ t.allowed)
  integer_line line (later _ (later _ (later _ (later _ x)))) t s r = elim x [ ]

  inner_line : (line : TextLine) {x a y : State} → Has line (lines_of parts.InnerIntegerType) → T line.0 x a → Spans line.1 a y → Ready y → Integer x
  inner_line line {x} {a} (here _) t (spans_end _) r = word_integer x a t r
  inner_line line {x} {a} (later _ (here _)) t (spans_end _) r = alias_integer x a t r
  inner_line line (later _ (later _ (here _))) t s r = absurd (never None _ t.allowed)
  inner_line line (later _ (later _ (later _ (here _)))) t s r = absurd (never None _ t.allowed)
  inner_line line (later _ (later _ (later _ (later _ x)))) t s r = elim x [ ]

  integer_tail : (x : State) → Integer x → Tail x
  integer_tail x i = record { first = λ s. element_tail words.number (width_next x) x.sizes (its x) i.few (i.first s); told = i.told }

  memref_ready : {x a y : State} (element : Part) (more : List Wanted) → ((c d : State) → means element c d → Ready d → Integer c) → all_in is_boring_symbol more ≡ true
      → T places.MemrefWord x a → Spans (memref_line element more).1 a y → Ready y → Ready x
  memref_ready {x} {a} element more of h m (spans_at _ {y = b} less (spans_part _ {y = c} d (spans_part _ {y = e} el (spans_part _ ends s)))) r =
      let t : Tail a = tail_kept places.MemrefLess a b less refl refl (its_moved places.MemrefLess a b less refl) less.sizes_is (d (integer_tail c (of c e el (ends (boring_spans more h s r))))) in
      record {
        fine = λ s. subst (all_fine words.number) (sym (its_moved places.MemrefWord x a m refl))
            (memref_made words.number (its a) (subst (λ (n : ℕ). TailFirst words.number n (its a)) m.sizes_is (t.first (sure places.MemrefWord x a m refl s))));
        colon = λ s c. absurd (true≢false (sym c ∙ ap colon_next (moved places.MemrefWord x a m refl)));
        told = untold places.MemrefWord x a refl m t.told;
      }

  -- Numbers

  colon_line : (line : TextLine) {x a y : State} → Has line (lines_of parts.NumberType) → T line.0 x a → Spans line.1 a y → Ready y → Ready x
  colon_line line {x} {a} (here _) m (spans_part _ i (spans_end _)) r =
      let t : Integer a = i r in
      let e : its x ≡ its a = its_moved places.NumberColon x a m refl in
      let w : width_here x ≡ width_next a = ap (number_width words final) (moved places.NumberColon x a m refl) in
      record {
        fine = λ s. subst (all_fine words.number) (sym e) (integer_all words.number (width_next a) (its a) (t.first (sure places.NumberColon x a m refl s)));
        colon = λ s c. subst (λ v. IntegerFirst words.number v (its x)) (sym w) (subst (IntegerFirst words.number (width_next a)) (sym e) (t.first (sure places.NumberColon x a m refl s)));
        told = untold places.NumberColon x a refl m t.told;
      }
  colon_line line (later _ x) t _ r = elim x [ ]

  -- a number's width is the one that is asked for
  unfit_here : (x a : State) (m : T places.IntegerNumber x a) → unfits_some (width_here a) x.listed.minus (words.number m.name) ≡ false
  unfit_here x a m = sym (ap (λ w. unfits_some w x.listed.minus (words.number m.name)) (same_widths a)) ∙ m.inside

  number_ready : {x a y : State} (more : List Wanted) → all_in is_boring_symbol more ≡ true → T places.IntegerNumber x a → Spans (number_line more).1 a y → Ready y → Ready x
  number_ready {x} {a} more h m (spans_part _ n s) r =
      let t : Ready a = n (boring_spans more h s r) in
      record {
        fine = λ u. subst (all_fine words.number) (sym (its_moved places.IntegerNumber x a m refl))
            (number_made words final m.name x.listed.minus (env x m.name) (evs a) (its a) (unfit_here x a m) (t.fine (sure places.IntegerNumber x a m refl u)) (t.colon (sure places.IntegerNumber x a m refl u)));
        colon = λ u c. absurd (true≢false (sym c ∙ ap colon_next (moved places.IntegerNumber x a m refl)));
        told = untold places.IntegerNumber x a refl m t.told;
      }

  minus_ready : {x a y : State} (more : List Wanted) → all_in is_boring_symbol more ≡ true → T places.IntegerMinus x a → Spans (minus_line more).1 a y → Ready y → Ready x
  minus_ready {x} {a} more h m (spans_at _ {y = b} k (spans_part _ n s)) r =
      let t : Ready b = n (boring_spans more h s r) in
      let minus : a.listed.minus ≡ true = ap (λ (l : Listed). l.minus) m.listed_is in
      let unfit : unfits_some (width_here b) true (words.number k.name) ≡ false = sym (ap (λ c. unfits_some (width_here b) c (words.number k.name)) minus) ∙ unfit_here a b k in
      record {
        fine = λ u. subst (all_fine words.number) (sym (its_moved places.IntegerMinus x a m refl ∙ ap (λ ts. acted (env x m.name) (Rattle.text_types.specs.declared.action.Action.TheVariants.Wrap Rattle.term_table.specs.declared.node.Form.TheVariants.Minus 0) ts) (its_moved places.IntegerNumber a b k refl)))
            (minus_made words final k.name (env a k.name) (evs b) (its b) unfit (t.fine (sure places.IntegerNumber a b k refl (sure places.IntegerMinus x a m refl u))) (t.colon (sure places.IntegerNumber a b k refl (sure places.IntegerMinus x a m refl u))));
        colon = λ u c. absurd (true≢false (sym c ∙ ap colon_next (moved places.IntegerMinus x a m refl)));
        told = untold places.IntegerMinus x a refl m (untold places.IntegerNumber a b refl k t.told);
      }

  -- Arrays

  listed_kept : (p : Place) (x y : State) (m : T p x y) → is_start p ≡ false → is_telling p ≡ false → its x ≡ its y → y.listed.width ≡ x.listed.width → Listing y → Listing x
  listed_kept p x y m h k e w t = record {
    first = λ s. subst (λ (n : ℕ). ListFirst words.number n (its x)) w (subst (ListFirst words.number y.listed.width) (sym e) (t.first (sure p x y m h s)));
    told = untold p x y k m t.told;
  }

  number_listed : (x y : State) → T places.ListedNumber x y → Lists x y
  number_listed x y m =
      let w : y.listed.width ≡ x.listed.width = ap (λ (l : Listed). l.width) m.listed_is in
      record {
        same = w;
        goes = λ t. record {
          first = λ s. subst (ListFirst words.number x.listed.width) (sym (its_moved places.ListedNumber x y m refl))
              (listed_more words.number m.name x.listed.width x.listed.minus (its y) m.wide m.inside (subst (λ (n : ℕ). ListFirst words.number n (its y)) w (t.first (sure places.ListedNumber x y m refl s))));
          told = untold places.ListedNumber x y refl m t.told;
        };
      }

  minus_numbered : (x a y : State) → T places.ListedMinus x a → T places.ListedNumber a y → Lists x y
  minus_numbered x a y m k =
      let w : a.listed.width ≡ x.listed.width = ap (λ (l : Listed). l.width) m.listed_is in
      let v : y.listed.width ≡ a.listed.width = ap (λ (l : Listed). l.width) k.listed_is in
      let minus : a.listed.minus ≡ true = ap (λ (l : Listed). l.minus) m.listed_is in
      let unfit : unfits true a.listed.width (words.number k.name) ≡ false = sym (ap (λ c. unfits c a.listed.width (words.number k.name)) minus) ∙ k.inside in
      record {
        same = v ∙ w;
        goes = λ t. record {
          first = λ s. subst (λ (n : ℕ). ListFirst words.number n (its x)) w
              (subst (ListFirst words.number a.listed.width) (sym (its_moved places.ListedMinus x a m refl ∙ ap (λ ts. acted (env x m.name) (Rattle.text_types.specs.declared.action.Action.TheVariants.Wrap Rattle.term_table.specs.declared.node.Form.TheVariants.ListedMinus 0) ts) (its_moved places.ListedNumber a y k refl)))
              (minus_listed words.number k.name a.listed.width (its y) unfit (subst (λ (n : ℕ). ListFirst words.number n (its y)) v (t.first (sure places.ListedNumber a y k refl (sure places.ListedMinus x a m refl s))))));
          told = untold places.ListedMinus x a refl m (untold places.ListedNumber a y refl k t.told);
        };
      }

  list_number_line : (line : TextLine) {x a y : State} → Has line (lines_of parts.ListNumber) → T line.0 x a → Spans line.1 a y → Lists x y
  list_number_line line {x} {a} (here _) m (spans_end _) = number_listed x a m
  list_number_line line {x} {a} {y} (later _ (here _)) m (spans_at _ k (spans_end _)) = minus_numbered x a y m k
  list_number_line line (later _ (later _ x)) m _ = elim x [ ]

  lists_join : {x y z : State} → Lists x y → Lists y z → Lists x z
  lists_join a b = record { same = b.same ∙ a.same; goes = λ t. a.goes (b.goes t) }

  kept_lists : (p : Place) (x y : State) (m : T p x y) → is_start p ≡ false → is_telling p ≡ false → its x ≡ its y → y.listed.width ≡ x.listed.width → Lists x y
  kept_lists p x y m h k e w = record { same = w; goes = listed_kept p x y m h k e w }

  numbers_line : (line : TextLine) {x a y : State} → Has line (lines_of parts.Numbers) → T line.0 x a → Spans line.1 a y → Lists x y
  numbers_line line {x} {a} (here _) m (spans_part _ n (spans_part _ more (spans_end _))) =
      lists_join (kept_lists places.NumbersColon x a m refl refl (its_moved places.NumbersColon x a m refl) (ap (λ (l : Listed). l.width) m.listed_is)) (lists_join n more)
  numbers_line line (later _ x) m _ = elim x [ ]

  more_numbers_line : (line : TextLine) {x a y : State} → Has line (lines_of parts.MoreNumbers) → T line.0 x a → Spans line.1 a y → Lists x y
  more_numbers_line line {x} {a} (here _) m (spans_part _ n (spans_part _ more (spans_end _))) =
      lists_join (kept_lists places.NumbersComma x a m refl refl (its_moved places.NumbersComma x a m refl) (ap (λ (l : Listed). l.width) m.listed_is)) (lists_join n more)
  more_numbers_line line (later _ x) m _ = elim x [ ]

  array_ready : {x a y : State} (more : List Wanted) → all_in is_boring_symbol more ≡ true → T places.NumbersWord x a → Spans (array_line more).1 a y → Ready y → Ready x
  array_ready {x} {a} more h m (spans_at _ {y = b} less (spans_at _ {y = c} k (spans_part _ {y = d} n (spans_at _ {y = e} ends s)))) r =
      let t : Ready e = boring_spans more h s r in
      let closed : Listing d = record {
        first = λ s. subst (ListFirst words.number d.listed.width) (sym (its_moved places.NumbersGreater d e ends refl)) (refl, t.fine (sure places.NumbersGreater d e ends refl s));
        told = untold places.NumbersGreater d e refl ends t.told;
      } in
      let list : Listing c = n.goes closed in
      let w : c.listed.width ≡ written_width (words.width k.name) = ap (λ (l : Listed). l.width) k.listed_is in
      let wide : Ready b = record {
        fine = λ s. subst (all_fine words.number) (sym (its_moved places.NumbersWidth b c k refl))
            (array_made words.number (words.width k.name) (its c) k.sound (subst (λ (n : ℕ). ListFirst words.number n (its c)) w (list.first (sure places.NumbersWidth b c k refl s))));
        colon = λ s c. absurd (true≢false (sym c ∙ ap colon_next (moved places.NumbersWidth b _ k refl)));
        told = untold places.NumbersWidth b c refl k list.told;
      } in
      boring_ready places.NumbersWord x a refl m (boring_ready places.NumbersLess a b refl less wide)

  -- Lines of types and of attributes

  types_line : (element : Part) (front back : List TextLine) (more : List Wanted) → ((c d : State) → means element c d → Ready d → Integer c) → all_in is_boring_symbol more ≡ true
      → all_in is_boring_line front ≡ true → all_in is_boring_line back ≡ true
      → (line : TextLine) {x a y : State} → Has line (front ++ memref_line element more ∷ back) → T line.0 x a → Spans line.1 a y → Ready y → Ready x
  types_line element front back more of h k l line {x} {a} {y} has t s r = by_place (has_either front (memref_line element more ∷ back) line has)
    where
      by_rest : (one : TextLine) (ls : List TextLine) → Has one (memref_line element more ∷ ls) → all_in is_boring_line ls ≡ true → T one.0 x a → Spans one.1 a y → Ready x
      by_rest one ls (here _) q t s = memref_ready element more of h t s r
      by_rest one ls (later _ i) q t s = boring_line one (one_is ls one i q) t s r

      by_place : Has line front ⊎ Has line (memref_line element more ∷ back) → Ready x
      by_place (inl i) = boring_line line (one_is front line i k) t s r
      by_place (inr i) = by_rest line back i l t s

  attrs_line : (some_of any_of front back : List TextLine) (more : List Wanted) → all_in is_boring_symbol more ≡ true
      → all_in is_boring_line some_of ≡ true → all_in is_boring_line any_of ≡ true → all_in is_boring_line front ≡ true → all_in is_boring_line back ≡ true
      → (line : TextLine) {x a y : State} → Has line (some_of ++ number_line more ∷ minus_line more ∷ (any_of ++ array_line more ∷ (front ++ memref_line parts.IntegerType more ∷ back))) → T line.0 x a → Spans line.1 a y → Ready y → Ready x
  attrs_line some_of any_of front back more h ok ik k l line {x} {a} {y} has t s r = by_place (has_either some_of (number_line more ∷ minus_line more ∷ (any_of ++ array_line more ∷ (front ++ memref_line parts.IntegerType more ∷ back))) line has)
    where
      by_array : (one : TextLine) (ls : List TextLine) → (Has one ls → Ready x) → Has one (array_line more ∷ ls) → T one.0 x a → Spans one.1 a y → Ready x
      by_array one ls f (here _) t s = array_ready more h t s r
      by_array one ls f (later _ i) t s = f i

      behind : Has line any_of ⊎ Has line (array_line more ∷ (front ++ memref_line parts.IntegerType more ∷ back)) → Ready x
      behind (inl i) = boring_line line (one_is any_of line i ik) t s r
      behind (inr i) = by_array line (front ++ memref_line parts.IntegerType more ∷ back) (λ j. types_line parts.IntegerType front back more (λ c d m. m) h k l line j t s r) i t s

      by_numbers : (one : TextLine) (ls : List TextLine) → (Has one ls → Ready x) → Has one (number_line more ∷ minus_line more ∷ ls) → T one.0 x a → Spans one.1 a y → Ready x
      by_numbers one ls f (here _) t s = number_ready more h t s r
      by_numbers one ls f (later _ (here _)) t s = minus_ready more h t s r
      by_numbers one ls f (later _ (later _ i)) t s = f i

      by_place : Has line some_of ⊎ Has line (number_line more ∷ minus_line more ∷ (any_of ++ array_line more ∷ (front ++ memref_line parts.IntegerType more ∷ back))) → Ready x
      by_place (inl i) = boring_line line (one_is some_of line i ok) t s r
      by_place (inr i) = by_numbers line (any_of ++ array_line more ∷ (front ++ memref_line parts.IntegerType more ∷ back)) (λ j. behind (has_either any_of (array_line more ∷ (front ++ memref_line parts.IntegerType more ∷ back)) line j)) i t s

  -- Whole texts

  line_means : (n : Part) (line : TextLine) {x a y : State} → Has line (lines_of n) → T line.0 x a → Spans line.1 a y → means n x y
  line_means parts.Dimensions line has t s = dimensions_line line has t s
  line_means parts.IntegerType line has t s = integer_line line has t s
  line_means parts.InnerIntegerType line has t s = inner_line line has t s
  line_means parts.Numbers line has t s = numbers_line line has t s
  line_means parts.MoreNumbers line has t s = more_numbers_line line has t s
  line_means parts.ListNumber line has t s = list_number_line line has t s
  line_means parts.NumberType line has t s = colon_line line has t s
  line_means parts.OneType line has t s = types_line parts.IntegerType (take 7 (lines_of parts.OneType)) (drop 8 (lines_of parts.OneType)) [] (λ c d m. m) refl refl refl line has t s
  line_means parts.Types line has t s = types_line parts.IntegerType (take 7 (lines_of parts.Types)) (drop 8 (lines_of parts.Types)) (some parts.MoreTypes ∷ []) (λ c d m. m) refl refl refl line has t s
  line_means parts.Results line has t s = types_line parts.IntegerType (take 7 (lines_of parts.Results)) (drop 8 (lines_of parts.Results)) [] (λ c d m. m) refl refl refl line has t s
  line_means parts.InnerType line has t s = types_line parts.InnerIntegerType (take 7 (lines_of parts.InnerType)) (drop 8 (lines_of parts.InnerType)) [] (λ c d m. m) refl refl refl line has t s
  line_means parts.InnerTypes line has t s =
      types_line parts.InnerIntegerType (take 7 (lines_of parts.InnerTypes)) (drop 8 (lines_of parts.InnerTypes)) (some parts.MoreInnerTypes ∷ []) (λ c d m. m) refl refl refl line has t s
  line_means parts.InnerResults line has t s = types_line parts.InnerIntegerType (take 7 (lines_of parts.InnerResults)) (drop 8 (lines_of parts.InnerResults)) [] (λ c d m. m) refl refl refl line has t s
  line_means parts.Attr line has t s =
      attrs_line (take 1 (lines_of parts.Attr)) (take 6 (drop 3 (lines_of parts.Attr))) (take 7 (drop 10 (lines_of parts.Attr))) (drop 18 (lines_of parts.Attr)) [] refl refl refl refl refl line has t s
  line_means parts.Items line has t s =
      attrs_line (take 1 (lines_of parts.Items)) (take 6 (drop 3 (lines_of parts.Items))) (take 7 (drop 10 (lines_of parts.Items))) (drop 18 (lines_of parts.Items)) (some parts.MoreItems ∷ []) refl refl refl refl refl line has t s
  line_means parts.AliasValue line has t s =
      attrs_line (take 1 (lines_of parts.AliasValue)) (take 6 (drop 3 (lines_of parts.AliasValue))) (take 7 (drop 10 (lines_of parts.AliasValue))) (drop 18 (lines_of parts.AliasValue)) [] refl refl refl refl refl line has t s
  line_means n line has t s = boring_line line (one_is (lines_of n) line has refl) t s

  left : (n : Part) (x : State) → empty_at n ≡ true → means n x x
  left parts.Dimensions x e = λ t. t
  left parts.IntegerType x e = absurd (true≢false (sym e))
  left parts.InnerIntegerType x e = absurd (true≢false (sym e))
  left parts.Numbers x e = record { same = refl; goes = λ t. t }
  left parts.MoreNumbers x e = record { same = refl; goes = λ t. t }
  left parts.ListNumber x e = absurd (true≢false (sym e))
  left _ x e = λ r. r

  spans_of : {ss : List Wanted} {ps : List Place} {ks : List Kind} → Reads generic ss ps ks → {x y : State} → Run T ps x y → Spans ss x y
  spans_of done (run_end x) = spans_end x
  spans_of (takes p k fit more) (run_more _ t run) = spans_at p t (spans_of more run)
  spans_of (opens n line k {ss} has fit more) (run_more _ t run) = let c = cut line.1 ss (spans_of more run) in spans_part n (line_means n line has t c.front) c.back
  spans_of (leaves n e more) {x} run = spans_part n (left n x e) (spans_of more run)

  -- of a text that is read terms are fine from its begin on, where they are at its end
  pub all_read : {ps : List Place} {ks : List Kind} → Reads generic (symbols.Part parts.File ∷ []) ps ks → {x y : State} → Run T ps x y → Ready y → Ready x
  all_read reads run = whole (spans_of reads run)
    where
      whole : {x y : State} → Spans (symbols.Part parts.File ∷ []) x y → Ready y → Ready x
      whole (spans_part _ f (spans_end _)) = f
