-- Each line of a type puts one term before those behind it.
use Rattle.std.specs.Prelude.{not, if◌then◌else◌}
use Rattle.std.proofs.Common.{◌≡◌, ◌⊎◌, inl, inr, ℕ, ◌&&◌, Bool, true, false, List, [], ◌∷◌, ◌++◌, Option, Some, None, refl, sym, ap, ◌∙◌, subst, true≢false}
use Rattle.line_grammar.specs.declared.Symbol.TheVariants as symbols
use Rattle.line_grammar.specs.Grammar.{Has, here, later}
use Rattle.text_grammar.specs.declared.places.Place.{Place}
use Rattle.text_grammar.specs.declared.places.Place.TheVariants as places
use Rattle.text_grammar.specs.declared.parts.Part.{Part}
use Rattle.text_grammar.specs.declared.parts.Part.TheVariants as parts
use Rattle.text_grammar.specs.Table.{TextLine, Wanted, alone, array_rest, before, function_type, inner_function_type, inner_types, lines_of, llvm_function_rest, outer_types, plain_types, short_types, struct_rest}
use Rattle.text_events.specs.declared.event.Event.{Event}
use Rattle.term_table.specs.declared.node.Form.TheVariants as forms
use Rattle.term_table.specs.Terms.{Term, node, nothing}
use Rattle.text_types.specs.declared.action.Action.TheVariants.{Keep, Join, Wrap}
use Rattle.text_types.specs.Spelling.{Spelling}
use Rattle.text_types.specs.Actions.{actions_at, capped, integer_of, opens_types, plain_of, results_of, size_of}
use Rattle.text_types.specs.Items.{Aliases, acted, acted_both, items, joined, place_next, wrapped}
use Rattle.text_types.specs.Aliases.{is_nothing}
use Rattle.text_types.specs.Marks.{arrow_next, closed, first_or_false, marked, marked_at, without_first}
use Rattle.begun_types.specs.Begun.{AreBegun, BegunAt, are_types, is_refused}
use Rattle.begun_types.proofs.Effects.{Arrowed, Calm, Cut, Ended, ListOn, More, OneTerm, Results, Several, Sizes, SomeOn, Spans, Takes, ahead, begun_more, calm_line, calm_more, cut, event, is_tame_line, it, means, one_in, quiet_join, quiet_word, shut_word, spans_at, spans_end, spans_part}

either : (ls ms : List TextLine) (line : TextLine) → Has line (ls ++ ms) → Has line ls ⊎ Has line ms
either [] ms line has = inr has
either (l ∷ ls) ms line (here xs) = inl (here ls)
either (l ∷ ls) ms line (later y has) = by_cases (either ls ms line has)
  where
    by_cases : Has line ls ⊎ Has line ms → Has line (l ∷ ls) ⊎ Has line ms
    by_cases (inl h) = inl (later l h)
    by_cases (inr h) = inr h

-- a line with more behind it
record Longer (more : List Wanted) (lines : List TextLine) (line : TextLine) : Type 0 where
  short : TextLine
  has : Has short lines
  is : line ≡ (short.0, short.1 ++ more)

longer : (more : List Wanted) (lines : List TextLine) (line : TextLine) → Has line (before more lines) → Longer more lines line
longer more [] line has = elim has [ ]
longer more (l ∷ ls) line (here xs) = record { short = l; has = here ls; is = refl }
longer more (l ∷ ls) line (later y has) = let r = longer more ls line has in record { short = r.short; has = later l r.has; is = r.is }

module _ (words : Spelling) (aliases : Aliases) where
  abbrev Moves : Place → List Event → List Event → Type 0
  Moves p x y = Takes words aliases p x y

  abbrev over : List Event → List Term
  over x = it words aliases x

  abbrev after : List Event → Option Place
  after x = ahead words aliases x

  -- what a word does
  pub does : {p : Place} {x y : List Event} (m : Moves p x y) → over x ≡ acted_both (aliases m.name) (actions_at words (marked_at p (arrow_next y) (first_or_false (closed y))) m.name (after y)) (over y)
  does m = ap (λ es. items words aliases (marked es)) m.is

  -- and where it stands
  pub stands_at : {p : Place} {x y : List Event} (m : Moves p x y) → after x ≡ Some (marked_at p (arrow_next y) (first_or_false (closed y)))
  stands_at m = ap (λ es. place_next (marked es)) m.is

  some_integer : (o : Option ℕ) (t : Term) (rest : List Term) → SomeOn words aliases (acted t (integer_of o) rest) rest
  some_integer None t rest = record { term = node forms.Index 0 nothing nothing; some = refl; is = refl }
  some_integer (Some w) t rest = record { term = node forms.Int w nothing nothing; some = refl; is = refl }

  some_plain : (b : Bool) (t : Term) (rest : List Term) → SomeOn words aliases (acted t (plain_of b) rest) rest
  some_plain true t rest = record { term = node forms.Void 0 nothing nothing; some = refl; is = refl }
  some_plain false t rest = record { term = node forms.Ptr 0 nothing nothing; some = refl; is = refl }

  some_size : (o : Option ℕ) (t l : Term) (rest : List Term) → SomeOn words aliases (acted t (size_of o) (l ∷ rest)) rest
  some_size None t l rest = record { term = node forms.Dynamic 0 l nothing; some = refl; is = refl }
  some_size (Some w) t l rest = record { term = node forms.Size (capped w) l nothing; some = refl; is = refl }

  -- also where it is the term of other words
  some_by : {ts us rest : List Term} → ts ≡ us → SomeOn words aliases us rest → SomeOn words aliases ts rest
  some_by e s = record { term = s.term; some = s.some; is = e ∙ s.is }

  pub list_by : {ts us rest : List Term} → ts ≡ us → ListOn words aliases us rest → ListOn words aliases ts rest
  list_by e s = record { list = s.list; good = s.good; is = e ∙ s.is }

  -- The rests of types

  struct_list : {x y : List Event} → Spans words aliases struct_rest x y → ListOn words aliases (over x) (over y)
  struct_list (spans_at _ less (spans_at _ begins (spans_part _ _ types (spans_at _ closes (spans_at _ greater (spans_end _)))))) =
      let t = types (shut_word words aliases refl closes) in
      let l = t.begins (ap opens_types (stands_at closes)) nothing _ refl (does closes ∙ does greater) (aliases begins.name) in
      list_by (does less ∙ does begins) l

  array_some : {x y : List Event} → arrow_next y ≡ false → Spans words aliases array_rest x y → SomeOn words aliases (over x) (over y)
  array_some e (spans_at _ less (spans_at _ number (spans_at _ by (spans_part _ _ element (spans_at _ greater (spans_end _)))))) =
      let t = element (shut_word words aliases refl greater) in
      record {
        term = node forms.Array (capped (words.number number.name)) t.begins.term nothing;
        some = refl;
        is = does less ∙ does number ∙ ap (joined forms.Array (capped (words.number number.name))) (does by ∙ t.begins.is ∙ ap (λ ts. t.begins.term ∷ ts) (does greater));
      }

  -- of a function of the llvm dialect
  parameters_two : {x y : List Event} → Spans words aliases llvm_function_rest x y → SomeOn words aliases (joined forms.LlvmFunc 0 (over x)) (over y)
  parameters_two (spans_at _ less (spans_part _ _ output (spans_at _ begins (spans_part _ _ types (spans_at _ closes (spans_at _ greater (spans_end _))))))) =
      let o = output (shut_word words aliases refl begins) in
      let t = types (shut_word words aliases refl closes) in
      let l = list_by (does begins) (t.begins (ap opens_types (stands_at closes)) nothing _ refl (does closes ∙ does greater) (aliases begins.name)) in
      record {
        term = node forms.LlvmFunc 0 o.begins.term l.list;
        some = refl;
        is = ap (joined forms.LlvmFunc 0) (does less ∙ o.begins.is ∙ ap (λ ts. o.begins.term ∷ ts) l.is);
      }

  one_of : {p : Place} {x a y : List Event} → Moves p x a → ((b c : Bool) → opens_types (Some (marked_at p b c)) ≡ Join forms.Types 0)
      → ((b c : Bool) → results_of (Some (marked_at p b c)) ≡ Wrap forms.Types 0) → Calm words aliases x y → SomeOn words aliases (over x) (over y) → OneTerm words aliases x y
  one_of {a = a} m o r c s = record { calm = c; begins = s; opens = ap opens_types (stands_at m) ∙ o _ _; alone = ap results_of (stands_at m) ∙ r _ _ }

  refused : {X : Type 0} {p : Place} {x y : List Event} → is_refused p ≡ true → Moves p x y → X
  refused h m = absurd (true≢false (sym h ∙ m.supported))

  refused_line : {x a y : List Event} (p : Place) → is_refused p ≡ true → (line : TextLine) → Has line (alone p) → Moves line.0 x a → OneTerm words aliases x y
  refused_line p h line (here _) m = refused h m
  refused_line p h line (later _ z) m = elim z [ ]

  -- Types that begin with a word

  plain_line : (element : Part) → ((x y : List Event) → means words aliases element x y → OneTerm words aliases x y) → (line : TextLine) {x a y : List Event} → Has line (plain_types element) → Moves line.0 x a → Spans words aliases line.1 a y
      → arrow_next y ≡ false → Calm words aliases x y → OneTerm words aliases x y
  plain_line element same line (here _) m (spans_end _) e c = one_of m (λ _ _. refl) (λ _ _. refl) c (some_by (does m) (some_integer (words.width m.name) (aliases m.name) _))
  plain_line element same line (later _ (here _)) m (spans_end _) e c = one_of m (λ _ _. refl) (λ _ _. refl) c (record { term = aliases m.name; some = m.stands refl; is = does m })
  plain_line element same line (later _ (later _ (here _))) m s e c = refused refl m
  plain_line element same line (later _ (later _ (later _ (here _)))) m (spans_end _) e c = one_of m (λ _ _. refl) (λ _ _. refl) c (some_by (does m) (some_plain (words.is_void m.name) (aliases m.name) _))
  plain_line element same line (later _ (later _ (later _ (later _ (here _))))) m s e c =
      let l = struct_list s in one_of m (λ _ _. refl) (λ _ _. refl) c (record { term = node forms.Struct 0 l.list nothing; some = refl; is = does m ∙ ap (wrapped forms.Struct 0) l.is })
  plain_line element same line (later _ (later _ (later _ (later _ (later _ (here _)))))) m s e c = one_of m (λ _ _. refl) (λ _ _. refl) c (some_by (does m) (array_some e s))
  plain_line element same line (later _ (later _ (later _ (later _ (later _ (later _ (here _))))))) m s e c = one_of m (λ _ _. refl) (λ _ _. refl) c (some_by (does m) (parameters_two s))
  plain_line element same line (later _ (later _ (later _ (later _ (later _ (later _ (later _ (here _)))))))) m (spans_at _ less (spans_part _ _ sizes (spans_part _ _ one (spans_part _ _ ends (spans_end _))))) e c =
      let end = ends e in
      let t = same _ _ (one end.calm.shut) in
      let d = (sizes t.calm.shut).begins t.begins.term (nothing ∷ _) t.begins.some (t.begins.is ∙ ap (λ ts. t.begins.term ∷ ts) end.is) in
      one_of m (λ _ _. refl) (λ _ _. refl) c (record { term = node forms.Memref 0 d.term nothing; some = refl; is = does m ∙ ap (joined forms.Memref 0) (does less ∙ d.is) })
  plain_line element same line (later _ (later _ (later _ (later _ (later _ (later _ (later _ (later _ x)))))))) m s e c = elim x [ ]

  short_line : (line : TextLine) {x a y : List Event} → Has line short_types → Moves line.0 x a → Spans words aliases line.1 a y → arrow_next y ≡ false → Calm words aliases x y → OneTerm words aliases x y
  short_line line (here _) m (spans_end _) e c = one_of m (λ _ _. refl) (λ _ _. refl) c (some_by (does m) (some_plain (words.is_void m.name) (aliases m.name) _))
  short_line line (later _ (here _)) m s e c =
      let l = struct_list s in one_of m (λ _ _. refl) (λ _ _. refl) c (record { term = node forms.Struct 0 l.list nothing; some = refl; is = does m ∙ ap (wrapped forms.Struct 0) l.is })
  short_line line (later _ (later _ (here _))) m s e c = one_of m (λ _ _. refl) (λ _ _. refl) c (some_by (does m) (array_some e s))
  short_line line (later _ (later _ (later _ (here _)))) m s e c = one_of m (λ _ _. refl) (λ _ _. refl) c (some_by (does m) (parameters_two s))
  short_line line (later _ (later _ (later _ (later _ x)))) m s e c = elim x [ ]

  -- a function type
  function_some : {x a b c d y : List Event} → Moves places.FunctionOpen x a → Several words aliases a b → Moves places.FunctionClose b c → Moves places.FunctionArrow c d → Results words aliases d y → SomeOn words aliases (over x) (over y)
  function_some begins types closes arrow results =
      let r = list_by (does arrow) (results.begins (aliases arrow.name)) in
      let l = types.begins (ap opens_types (stands_at closes)) nothing _ refl (does closes ∙ ap (λ ts. nothing ∷ ts) r.is) (aliases begins.name) in
      record { term = node forms.Func 0 l.list r.list; some = refl; is = does begins ∙ ap (joined forms.Func 0) l.is }

  function_line : (line : TextLine) {x a y : List Event} → Has line function_type → Moves line.0 x a → Spans words aliases line.1 a y → arrow_next y ≡ false → Calm words aliases x y → OneTerm words aliases x y
  function_line line (here _) m (spans_part _ _ types (spans_at _ closes (spans_at _ arrow (spans_part _ _ results (spans_end _))))) e c =
      one_of m (λ _ _. refl) (λ _ _. refl) c (function_some m (types (shut_word words aliases refl closes)) closes arrow (results e))
  function_line line (later _ x) m s e c = elim x [ ]

  inner_function_line : (line : TextLine) {x a y : List Event} → Has line inner_function_type → Moves line.0 x a → Spans words aliases line.1 a y → arrow_next y ≡ false → Calm words aliases x y → OneTerm words aliases x y
  inner_function_line line (here _) m (spans_part _ _ types (spans_at _ closes (spans_at _ arrow (spans_part _ _ results (spans_end _))))) e c =
      one_of m (λ _ _. refl) (λ _ _. refl) c (function_some m (types (shut_word words aliases refl closes)) closes arrow (results e))
  inner_function_line line (later _ x) m s e c = elim x [ ]

  outer_line : (line : TextLine) {x a y : List Event} → Has line outer_types → Moves line.0 x a → Spans words aliases line.1 a y → arrow_next y ≡ false → Calm words aliases x y → OneTerm words aliases x y
  outer_line line {x} {a} {y} has m s e c = by_cases (either (plain_types parts.IntegerType) (alone places.UnsupportedTypeWord) line has)
    where
      by_cases : Has line (plain_types parts.IntegerType) ⊎ Has line (alone places.UnsupportedTypeWord) → OneTerm words aliases x y
      by_cases (inl h) = plain_line parts.IntegerType (λ _ _ t. t) line h m s e c
      by_cases (inr h) = refused_line _ refl line h m

  inner_line : (line : TextLine) {x a y : List Event} → Has line inner_types → Moves line.0 x a → Spans words aliases line.1 a y → arrow_next y ≡ false → Calm words aliases x y → OneTerm words aliases x y
  inner_line line {x} {a} {y} has m s e c = by_cases (either (plain_types parts.InnerIntegerType ++ short_types) (alone places.UnsupportedInnerWord) line has)
    where
      by_more : Has line (plain_types parts.InnerIntegerType) ⊎ Has line short_types → OneTerm words aliases x y
      by_more (inl h) = plain_line parts.InnerIntegerType (λ _ _ t. t) line h m s e c
      by_more (inr h) = short_line line h m s e c

      by_cases : Has line (plain_types parts.InnerIntegerType ++ short_types) ⊎ Has line (alone places.UnsupportedInnerWord) → OneTerm words aliases x y
      by_cases (inl h) = by_more (either (plain_types parts.InnerIntegerType) short_types line h)
      by_cases (inr h) = refused_line _ refl line h m

  -- one type
  pub type_line : (line : TextLine) {x a y : List Event} → Has line (outer_types ++ function_type) → Moves line.0 x a → Spans words aliases line.1 a y → arrow_next y ≡ false → OneTerm words aliases x y
  type_line line {x} {a} {y} has m s e = by_cases (either outer_types function_type line has)
    where
      c : Calm words aliases x y
      c = calm_line words aliases line (one_in is_tame_line (outer_types ++ function_type) line has refl) m s e

      by_cases : Has line outer_types ⊎ Has line function_type → OneTerm words aliases x y
      by_cases (inl h) = outer_line line h m s e c
      by_cases (inr h) = function_line line h m s e c

  pub inner_type_line : (line : TextLine) {x a y : List Event} → Has line (inner_types ++ inner_function_type) → Moves line.0 x a → Spans words aliases line.1 a y → arrow_next y ≡ false → OneTerm words aliases x y
  inner_type_line line {x} {a} {y} has m s e = by_cases (either inner_types inner_function_type line has)
    where
      c : Calm words aliases x y
      c = calm_line words aliases line (one_in is_tame_line (inner_types ++ inner_function_type) line has refl) m s e

      by_cases : Has line inner_types ⊎ Has line inner_function_type → OneTerm words aliases x y
      by_cases (inl h) = inner_line line h m s e c
      by_cases (inr h) = inner_function_line line h m s e c

  -- the types of elements
  pub element_line : (word : Place) → is_refused word ≡ true → (line : TextLine) {x a y : List Event}
      → Has line ((places.ElementWord, []) ∷ (places.ElementAlias, []) ∷ (places.DottedType, []) ∷ (word, []) ∷ []) → Moves line.0 x a → Spans words aliases line.1 a y → arrow_next y ≡ false → OneTerm words aliases x y
  element_line word r line (here _) m (spans_end _) e =
      one_of m (λ _ _. refl) (λ _ _. refl) (record { quiet = quiet_word words aliases refl m; shut = shut_word words aliases refl m }) (some_by (does m) (some_integer (words.width m.name) (aliases m.name) _))
  element_line word r line (later _ (here _)) m (spans_end _) e =
      one_of m (λ _ _. refl) (λ _ _. refl) (record { quiet = quiet_word words aliases refl m; shut = shut_word words aliases refl m }) (record { term = aliases m.name; some = m.stands refl; is = does m })
  element_line word r line (later _ (later _ (here _))) m s e = refused refl m
  element_line word r line (later _ (later _ (later _ (here _)))) m s e = refused r m
  element_line word r line (later _ (later _ (later _ (later _ x)))) m s e = elim x [ ]

  -- Lists of types

  typed : (t l : Term) → is_nothing t ≡ false → are_types l ≡ true → are_types (node forms.Types 0 t l) ≡ true
  typed t l s g = ap (λ b. not b && are_types l) s ∙ g

  pub several : {x m y : List Event} → OneTerm words aliases x m → More words aliases m y → Several words aliases x y
  several {x} {m} {y} one more = record {
    calm = record { quiet = quiet_join words aliases one.calm.quiet more.calm.quiet; shut = one.calm.shut };
    begins = λ closes l rest good e t. let b = more.begins l rest good e in record {
      list = node forms.Types 0 one.begins.term b.list;
      good = typed one.begins.term b.list one.begins.some b.good;
      is = ap (λ a. acted t a (over x)) one.opens ∙ ap (joined forms.Types 0) (one.begins.is ∙ ap (λ ts. one.begins.term ∷ ts) b.is);
    };
  }

  -- types behind a sign: the first one, and those behind it
  pub types_line : (line : TextLine) {x a y : List Event} → Has line (lines_of parts.Types) → Moves line.0 x a → Spans words aliases line.1 a y → arrow_next y ≡ false → Several words aliases x y
  types_line line {x} {a} {y} has m s e = by_short (longer (symbols.Part parts.MoreTypes ∷ []) (outer_types ++ function_type) line has)
    where
      by_short : Longer (symbols.Part parts.MoreTypes ∷ []) (outer_types ++ function_type) line → Several words aliases x y
      by_short r = with_rest (cut words aliases r.short.1 (symbols.Part parts.MoreTypes ∷ []) (subst (λ (l : TextLine). Spans words aliases l.1 a y) r.is s))
        where
          with_rest : Cut words aliases r.short.1 (symbols.Part parts.MoreTypes ∷ []) a y → Several words aliases x y
          with_rest c = with_more c.back c.front
            where
              with_more : {z : List Event} → Spans words aliases (symbols.Part parts.MoreTypes ∷ []) z y → Spans words aliases r.short.1 a z → Several words aliases x y
              with_more (spans_part _ _ more (spans_end _)) front =
                  let rest = more e in several (type_line r.short r.has (subst (λ (l : TextLine). Moves l.0 x a) r.is m) front rest.calm.shut) rest

  pub inner_types_line : (line : TextLine) {x a y : List Event} → Has line (lines_of parts.InnerTypes) → Moves line.0 x a → Spans words aliases line.1 a y → arrow_next y ≡ false → Several words aliases x y
  inner_types_line line {x} {a} {y} has m s e = by_short (longer (symbols.Part parts.MoreInnerTypes ∷ []) (inner_types ++ inner_function_type) line has)
    where
      by_short : Longer (symbols.Part parts.MoreInnerTypes ∷ []) (inner_types ++ inner_function_type) line → Several words aliases x y
      by_short r = with_rest (cut words aliases r.short.1 (symbols.Part parts.MoreInnerTypes ∷ []) (subst (λ (l : TextLine). Spans words aliases l.1 a y) r.is s))
        where
          with_rest : Cut words aliases r.short.1 (symbols.Part parts.MoreInnerTypes ∷ []) a y → Several words aliases x y
          with_rest c = with_more c.back c.front
            where
              with_more : {z : List Event} → Spans words aliases (symbols.Part parts.MoreInnerTypes ∷ []) z y → Spans words aliases r.short.1 a z → Several words aliases x y
              with_more (spans_part _ _ more (spans_end _)) front =
                  let rest = more e in several (inner_type_line r.short r.has (subst (λ (l : TextLine). Moves l.0 x a) r.is m) front rest.calm.shut) rest

  -- and behind a comma
  more_types : {x a b y : List Event} → Moves places.TypeComma x a → OneTerm words aliases a b → More words aliases b y → More words aliases x y
  more_types {x} comma one rest = record {
    calm = calm_more words aliases refl refl comma (quiet_join words aliases one.calm.quiet rest.calm.quiet);
    begins = λ l others good e. let b = rest.begins l others good e in record {
      list = node forms.Types 0 one.begins.term b.list;
      good = typed one.begins.term b.list one.begins.some b.good;
      is = does comma ∙ ap (joined forms.Types 0) (one.begins.is ∙ ap (λ ts. one.begins.term ∷ ts) b.is);
    };
  }

  pub more_line : (line : TextLine) {x a y : List Event} → Has line (lines_of parts.MoreTypes) → Moves line.0 x a → Spans words aliases line.1 a y → arrow_next y ≡ false → More words aliases x y
  more_line line (here _) m (spans_part _ _ one (spans_part _ _ more (spans_end _))) e = let rest = more e in more_types m (one rest.calm.shut) rest
  more_line line (later _ z) m s e = elim z [ ]

  pub more_inner_line : (line : TextLine) {x a y : List Event} → Has line (lines_of parts.MoreInnerTypes) → Moves line.0 x a → Spans words aliases line.1 a y → arrow_next y ≡ false → More words aliases x y
  more_inner_line line (here _) m (spans_part _ _ one (spans_part _ _ more (spans_end _))) e = let rest = more e in more_types m (one rest.calm.shut) rest
  more_inner_line line (later _ z) m s e = elim z [ ]

  -- Results

  alone_results : {x y : List Event} → OneTerm words aliases x y → Results words aliases x y
  alone_results {x} {y} one = record {
    calm = one.calm;
    begins = λ t. record {
      list = node forms.Types 0 one.begins.term nothing;
      good = typed one.begins.term nothing one.begins.some refl;
      is = ap (λ a. acted t a (over x)) one.alone ∙ ap (wrapped forms.Types 0) one.begins.is;
    };
  }

  -- the marks of parentheses, where an arrow stands behind them or not
  closes_marked : {x y : List Event} → Moves places.ResultsClose x y → closed x ≡ arrow_next y ∷ closed y
  closes_marked m = ap closed m.is

  opens_marked : {x y : List Event} → Moves places.ResultsOpen x y → closed x ≡ without_first (closed y)
  opens_marked m = ap closed m.is

  results_begun : {p : Place} {x y : List Event} → (Moves p x y) → ((e : Event) (es : List Event) → BegunAt words aliases p e es) → AreBegun words aliases y → AreBegun words aliases x
  results_begun {p} {x} {y} m h b = begun_more words aliases m (h (event p m.name) y) b

  pair_closed : {x a b c : List Event} → Moves places.ResultsOpen x a → Calm words aliases a b → Moves places.ResultsClose b c → closed x ≡ closed c
  pair_closed begins types closes = opens_marked begins ∙ ap without_first (types.quiet.closed_is ∙ closes_marked closes)

  pair_begun : {x a b c : List Event} → Moves places.ResultsOpen x a → Calm words aliases a b → Moves places.ResultsClose b c → AreBegun words aliases c → AreBegun words aliases x
  pair_begun begins types closes h = results_begun begins (λ _ _. tt) (types.quiet.begun (results_begun closes (λ _ _. tt) h))

  abbrev inner_at : List Event → Bool
  inner_at a = first_or_false (closed a)

  open_does : {x a : List Event} (b : Bool) (m : Moves places.ResultsOpen x a) → inner_at a ≡ b → over x ≡ acted_both (aliases m.name) (actions_at words (if b then places.FunctionOpen else places.ResultsOpen) m.name (after a)) (over a)
  open_does {x} {a} b m e = does m ∙ ap (λ t. acted_both (aliases m.name) (actions_at words (if t then places.FunctionOpen else places.ResultsOpen) m.name (after a)) (over a)) e

  open_stands : {x a : List Event} (b : Bool) (m : Moves places.ResultsOpen x a) → inner_at a ≡ b → after x ≡ Some (if b then places.FunctionOpen else places.ResultsOpen)
  open_stands {x} {a} b m e = stands_at m ∙ ap (λ t. Some (if t then places.FunctionOpen else places.ResultsOpen)) e

  close_does : {b c : List Event} (m : Moves places.ResultsClose b c) → over b ≡ nothing ∷ over c
  close_does {b} {c} m = does m ∙ by_test (arrow_next c)
    where
      by_test : (t : Bool) → acted_both (aliases m.name) (actions_at words (if t then places.FunctionClose else places.ResultsClose) m.name (after c)) (over c) ≡ nothing ∷ over c
      by_test true = refl
      by_test false = refl

  close_opens : {b c : List Event} (m : Moves places.ResultsClose b c) → opens_types (after b) ≡ Keep
  close_opens {b} {c} m = ap opens_types (stands_at m) ∙ by_test (arrow_next c)
    where
      by_test : (t : Bool) → opens_types (Some (if t then places.FunctionClose else places.ResultsClose)) ≡ Keep
      by_test true = refl
      by_test false = refl

  -- results in parentheses
  pub pair_results : {x a b c y : List Event} → Moves places.ResultsOpen x a → Several words aliases a b → Moves places.ResultsClose b c → (c ≡ y) ⊎ Arrowed words aliases c y → arrow_next y ≡ false → Results words aliases x y
  pair_results {x} {a} {b} {c} {y} begins types closes rest e = by_cases rest
    where
      inner : (t : Bool) → arrow_next c ≡ t → inner_at a ≡ t
      inner t h = ap first_or_false (types.calm.quiet.closed_is ∙ closes_marked closes) ∙ h

      by_cases : (c ≡ y) ⊎ Arrowed words aliases c y → Results words aliases x y
      by_cases (inl same) =
          let flat = inner false (ap arrow_next same ∙ e) in
          record {
            calm = record {
              quiet = record { closed_is = pair_closed begins types.calm closes ∙ ap closed same; begun = λ h. pair_begun begins types.calm closes (subst (λ (es : List Event). AreBegun words aliases es) (sym same) h) };
              shut = shut_word words aliases refl begins;
            };
            begins = λ t. list_by (ap (λ p. acted t (results_of p) (over x)) (open_stands false begins flat) ∙ open_does false begins flat)
                (types.begins (close_opens closes) nothing (over y) refl (close_does closes ∙ ap (λ es. nothing ∷ over es) same) (aliases begins.name));
          }
      by_cases (inr arrow) =
          let deep = inner true arrow.arrow in
          let l = types.begins (close_opens closes) nothing (arrow.begins.list ∷ over y) refl (close_does closes ∙ ap (λ ts. nothing ∷ ts) arrow.begins.is) (aliases begins.name) in
          record {
            calm = record {
              quiet = record { closed_is = pair_closed begins types.calm closes ∙ arrow.quiet.closed_is; begun = λ h. pair_begun begins types.calm closes (arrow.quiet.begun h) };
              shut = shut_word words aliases refl begins;
            };
            begins = λ t. record {
              list = node forms.Types 0 (node forms.Func 0 l.list arrow.begins.list) nothing;
              good = refl;
              is = ap (λ p. acted t (results_of p) (over x)) (open_stands true begins deep) ∙ ap (wrapped forms.Types 0) (open_does true begins deep ∙ ap (joined forms.Func 0) l.is);
            };
          }

  in_pair : (line : TextLine) {x a y : List Event} → Has line ((places.ResultsOpen, symbols.Part parts.Types ∷ symbols.At places.ResultsClose ∷ symbols.Part parts.AfterResults ∷ []) ∷ []) → Moves line.0 x a → Spans words aliases line.1 a y → arrow_next y ≡ false
      → Results words aliases x y
  in_pair line (here _) m (spans_part _ _ types (spans_at _ closes (spans_part _ _ rest (spans_end _)))) e = pair_results m (types (shut_word words aliases refl closes)) closes (rest e) e
  in_pair line (later _ z) m s e = elim z [ ]

  in_inner_pair : (line : TextLine) {x a y : List Event} → Has line ((places.ResultsOpen, symbols.Part parts.InnerTypes ∷ symbols.At places.ResultsClose ∷ symbols.Part parts.AfterInnerResults ∷ []) ∷ []) → Moves line.0 x a → Spans words aliases line.1 a y → arrow_next y ≡ false
      → Results words aliases x y
  in_inner_pair line (here _) m (spans_part _ _ types (spans_at _ closes (spans_part _ _ rest (spans_end _)))) e = pair_results m (types (shut_word words aliases refl closes)) closes (rest e) e
  in_inner_pair line (later _ z) m s e = elim z [ ]

  pub results_line : (line : TextLine) {x a y : List Event} → Has line (lines_of parts.Results) → Moves line.0 x a → Spans words aliases line.1 a y → arrow_next y ≡ false → Results words aliases x y
  results_line line {x} {a} {y} has m s e = by_cases (either outer_types ((places.ResultsOpen, symbols.Part parts.Types ∷ symbols.At places.ResultsClose ∷ symbols.Part parts.AfterResults ∷ []) ∷ []) line has)
    where
      by_cases : Has line outer_types ⊎ Has line ((places.ResultsOpen, symbols.Part parts.Types ∷ symbols.At places.ResultsClose ∷ symbols.Part parts.AfterResults ∷ []) ∷ []) → Results words aliases x y
      by_cases (inl h) = alone_results (outer_line line h m s e (calm_line words aliases line (one_in is_tame_line outer_types line h refl) m s e))
      by_cases (inr h) = in_pair line h m s e

  pub inner_results_line : (line : TextLine) {x a y : List Event} → Has line (lines_of parts.InnerResults) → Moves line.0 x a → Spans words aliases line.1 a y → arrow_next y ≡ false → Results words aliases x y
  inner_results_line line {x} {a} {y} has m s e = by_cases (either inner_types ((places.ResultsOpen, symbols.Part parts.InnerTypes ∷ symbols.At places.ResultsClose ∷ symbols.Part parts.AfterInnerResults ∷ []) ∷ []) line has)
    where
      by_cases : Has line inner_types ⊎ Has line ((places.ResultsOpen, symbols.Part parts.InnerTypes ∷ symbols.At places.ResultsClose ∷ symbols.Part parts.AfterInnerResults ∷ []) ∷ []) → Results words aliases x y
      by_cases (inl h) = alone_results (inner_line line h m s e (calm_line words aliases line (one_in is_tame_line inner_types line h refl) m s e))
      by_cases (inr h) = in_inner_pair line h m s e

  arrowed : {x a y : List Event} → Moves places.FunctionArrow x a → Results words aliases a y → Arrowed words aliases x y
  arrowed m r = record {
    quiet = quiet_join words aliases (quiet_word words aliases refl m) r.calm.quiet;
    arrow = ap arrow_next m.is;
    begins = list_by (does m) (r.begins (aliases m.name));
  }

  pub after_line : (line : TextLine) {x a y : List Event} → Has line (lines_of parts.AfterResults) → Moves line.0 x a → Spans words aliases line.1 a y → arrow_next y ≡ false → Arrowed words aliases x y
  after_line line (here _) m (spans_part _ _ r (spans_end _)) e = arrowed m (r e)
  after_line line (later _ z) m s e = elim z [ ]

  pub after_inner_line : (line : TextLine) {x a y : List Event} → Has line (lines_of parts.AfterInnerResults) → Moves line.0 x a → Spans words aliases line.1 a y → arrow_next y ≡ false → Arrowed words aliases x y
  after_inner_line line (here _) m (spans_part _ _ r (spans_end _)) e = arrowed m (r e)
  after_inner_line line (later _ z) m s e = elim z [ ]

  -- Memrefs

  pub sizes_line : (line : TextLine) {x a y : List Event} → Has line (lines_of parts.Dimensions) → Moves line.0 x a → Spans words aliases line.1 a y → arrow_next y ≡ false → Sizes words aliases x y
  sizes_line line (here _) m (spans_at _ by (spans_part _ _ sizes (spans_end _))) e =
      let rest = sizes e in
      record {
        calm = calm_more words aliases refl refl m (quiet_join words aliases (quiet_word words aliases refl by) rest.calm.quiet);
        begins = λ l others some h. let r = rest.begins l others some h in
            some_by (does m ∙ ap (acted (aliases m.name) (size_of (words.size m.name))) (does by ∙ r.is)) (some_size (words.size m.name) (aliases m.name) r.term others);
      }
  sizes_line line (later _ z) m s e = elim z [ ]

  pub ended_line : (line : TextLine) {x a y : List Event} → Has line (lines_of parts.MemrefEnd) → Moves line.0 x a → Spans words aliases line.1 a y → arrow_next y ≡ false → Ended words aliases x y
  ended_line line (here _) m (spans_end _) e = record { calm = record { quiet = quiet_word words aliases refl m; shut = shut_word words aliases refl m }; is = does m }
  ended_line line (later _ (here _)) m s e = refused refl m
  ended_line line (later _ (later _ z)) m s e = elim z [ ]
