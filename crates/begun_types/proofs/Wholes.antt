-- All words of a text.
use Rattle.std.specs.Prelude.{drop, if◌then◌else◌}
use Rattle.std.proofs.Common.{◌≡◌, inl, inr, ℕ, Bool, true, false, List, [], ◌∷◌, ◌++◌, refl, sym, ap, ◌∙◌, subst, true≢false}
use Rattle.line_grammar.specs.declared.Symbol.TheVariants as symbols
use Rattle.line_grammar.specs.Grammar.{Has, Reads, done, here, later, leaves, opens, takes}
use Rattle.line_grammar.specs.Conditions.{all_in}
use Rattle.text_grammar.specs.declared.kinds.Kind.{Kind}
use Rattle.text_grammar.specs.declared.places.Place.{Place}
use Rattle.text_grammar.specs.declared.places.Place.TheVariants as places
use Rattle.text_grammar.specs.declared.parts.Part.{Part}
use Rattle.text_grammar.specs.declared.parts.Part.TheVariants as parts
use Rattle.text_grammar.specs.Places.{fits_at}
use Rattle.text_grammar.specs.Table.{TextLine, Wanted, empty_at, generic, lines_of}
use Rattle.text_events.specs.declared.event.Event.{Event}
use Rattle.term_table.specs.declared.node.Form.TheVariants as forms
use Rattle.term_table.specs.Terms.{nothing}
use Rattle.text_types.specs.Spelling.{Spelling}
use Rattle.text_types.specs.Actions.{opens_types}
use Rattle.text_types.specs.Items.{Aliases, acted, first_of, items, joined}
use Rattle.text_types.specs.Aliases.{is_nothing, is_start, piece}
use Rattle.text_types.specs.Marks.{arrow_next, closed, first_or_false, marked, marked_at}
use Rattle.text_forms.specs.Forms.{Run, run_end, run_more}
use Rattle.begun_types.specs.Begun.{AreBegun, AreServed, IsDefined, IsFunction}
use Rattle.begun_types.specs.Laws.{TypesBegin}
use Rattle.begun_types.proofs.Effects.{Calm, More, OneTerm, Quiet, Results, Several, Spans, Sub, Takes, Whole, begun_more, calm_more, calm_refl, cut, event, is_tame_line, it, means, part_line, places_of, quiet_join, quiet_word, shut_word, spans_at, spans_end, spans_part, sub_of, tame_spans}
use Rattle.begun_types.proofs.TypeLines.{after_inner_line, after_line, does, element_line, ended_line, inner_results_line, inner_type_line, inner_types_line, list_by, more_inner_line, more_line, results_line, sizes_line, stands_at, type_line, types_line}

-- parts whose lines are tame, and of which nothing more is asked
abbrev is_calm_part : Part → Bool
is_calm_part parts.File = false
is_calm_part parts.OpBody = false
is_calm_part parts.BlockArgs = false
is_calm_part parts.MoreArgs = false
is_calm_part parts.OneType = false
is_calm_part parts.InnerType = false
is_calm_part parts.IntegerType = false
is_calm_part parts.InnerIntegerType = false
is_calm_part parts.Types = false
is_calm_part parts.InnerTypes = false
is_calm_part parts.MoreTypes = false
is_calm_part parts.MoreInnerTypes = false
is_calm_part parts.Results = false
is_calm_part parts.InnerResults = false
is_calm_part parts.AfterResults = false
is_calm_part parts.AfterInnerResults = false
is_calm_part parts.Dimensions = false
is_calm_part parts.MemrefEnd = false
is_calm_part _ = true

lines_tame : (n : Part) → is_calm_part n ≡ true → all_in is_tame_line (lines_of n) ≡ true
lines_tame parts.File h = absurd (true≢false (sym h))
lines_tame parts.OpBody h = absurd (true≢false (sym h))
lines_tame parts.BlockArgs h = absurd (true≢false (sym h))
lines_tame parts.MoreArgs h = absurd (true≢false (sym h))
lines_tame parts.OneType h = absurd (true≢false (sym h))
lines_tame parts.InnerType h = absurd (true≢false (sym h))
lines_tame parts.IntegerType h = absurd (true≢false (sym h))
lines_tame parts.InnerIntegerType h = absurd (true≢false (sym h))
lines_tame parts.Types h = absurd (true≢false (sym h))
lines_tame parts.InnerTypes h = absurd (true≢false (sym h))
lines_tame parts.MoreTypes h = absurd (true≢false (sym h))
lines_tame parts.MoreInnerTypes h = absurd (true≢false (sym h))
lines_tame parts.Results h = absurd (true≢false (sym h))
lines_tame parts.InnerResults h = absurd (true≢false (sym h))
lines_tame parts.AfterResults h = absurd (true≢false (sym h))
lines_tame parts.AfterInnerResults h = absurd (true≢false (sym h))
lines_tame parts.Dimensions h = absurd (true≢false (sym h))
lines_tame parts.MemrefEnd h = absurd (true≢false (sym h))
lines_tame _ h = refl

append_end : {X : Type 0} (xs : List X) → xs ++ [] ≡ xs
append_end [] = refl
append_end (x ∷ xs) = ap (λ ys. x ∷ ys) (append_end xs)

module _ (words : Spelling) (aliases : Aliases) where
  abbrev Moves : Place → List Event → List Event → Type 0
  Moves p x y = Takes words aliases p x y

  abbrev Spanned : List Wanted → List Event → List Event → Type 0
  Spanned ss x y = Spans words aliases ss x y

  abbrev Still : List Event → List Event → Type 0
  Still x y = Calm words aliases x y

  -- the function type of an operation
  function_begun : {c d e f g h : List Event} → Moves places.SignatureOpen c d → Several words aliases d e → Moves places.SignatureClose e f → Moves places.SignatureArrow f g → Results words aliases g h
      → IsFunction (first_of (it words aliases c))
  function_begun begins types closes arrow results =
      let r = list_by words aliases (does words aliases arrow) (results.begins (aliases arrow.name)) in
      let l = types.begins (ap opens_types (stands_at words aliases closes)) nothing _ refl (does words aliases closes ∙ ap (λ ts. nothing ∷ ts) r.is) (aliases begins.name) in
      record { inputs = l.list; results = r.list; is = ap first_of (does words aliases begins ∙ ap (joined forms.Func 0) l.is); typed = l.good }

  abbrev body_front : List Wanted
  body_front = symbols.Part parts.Uses ∷ symbols.At places.OperandsClose ∷ symbols.Part parts.Successors ∷ symbols.Part parts.Props ∷ symbols.Part parts.Regions ∷ symbols.Part parts.Dict ∷ symbols.At places.SignatureColon ∷ []

  abbrev body_back : List Wanted
  body_back = symbols.At places.SignatureOpen ∷ symbols.Part parts.Types ∷ symbols.At places.SignatureClose ∷ symbols.At places.SignatureArrow ∷ symbols.Part parts.Results ∷ symbols.Part parts.Loc ∷ []

  signature_quiet : {c y : List Event} → Spanned body_back c y → arrow_next y ≡ false → Still c y
  signature_quiet {c} {y} (spans_at _ {y = d} begins (spans_part _ _ types (spans_at _ closes (spans_at _ arrow (spans_part _ _ results (spans_part _ _ l (spans_end _))))))) e =
      let last = l e in
      let r = results last.shut in
      let t = types (shut_word words aliases refl closes) in
      let inner = quiet_join words aliases t.calm.quiet (quiet_join words aliases (quiet_word words aliases refl closes) (quiet_join words aliases (quiet_word words aliases refl arrow) (quiet_join words aliases r.calm.quiet last.quiet))) in
      record {
        quiet = record {
          closed_is = ap closed begins.is ∙ inner.closed_is;
          begun = λ h. begun_more words aliases begins (function_here begins (function_begun begins t closes arrow r)) (inner.begun h);
        };
        shut = shut_word words aliases refl begins;
      }
    where
      function_here : (m : Moves places.SignatureOpen c d) → IsFunction (first_of (it words aliases c)) → IsFunction (first_of (it words aliases (event places.SignatureOpen m.name ∷ d)))
      function_here m f = subst (λ (es : List Event). IsFunction (first_of (it words aliases es))) m.is f

  body_line : (line : TextLine) {x a y : List Event} → Has line (lines_of parts.OpBody) → Moves line.0 x a → Spanned line.1 a y → arrow_next y ≡ false → Still x y
  body_line line (here _) m s e =
      let c = cut words aliases body_front body_back s in
      let back = signature_quiet c.back e in
      let front = tame_spans words aliases body_front refl c.front back.shut in
      calm_more words aliases refl refl m (quiet_join words aliases front.quiet back.quiet)
  body_line line (later _ z) m s e = elim z [ ]

  -- arguments
  arg_quiet : {x b c d y : List Event} → Moves places.ArgName x b → Moves places.ArgColon b c → OneTerm words aliases c d → Quiet words aliases d y → Quiet words aliases x y
  arg_quiet {x} {b} {c} m colon type rest =
      let inner = quiet_join words aliases (quiet_word words aliases refl colon) (quiet_join words aliases type.calm.quiet rest) in
      record {
        closed_is = ap closed m.is ∙ inner.closed_is;
        begun = λ h. begun_more words aliases m (ap (λ es. is_nothing (first_of (items words aliases (drop 1 (marked es))))) colon.is ∙ ap (λ ts. is_nothing (first_of ts)) type.begins.is ∙ type.begins.some) (inner.begun h);
      }

  args_line : (line : TextLine) {x a y : List Event} → Has line (lines_of parts.BlockArgs) → Moves line.0 x a → Spanned line.1 a y → arrow_next y ≡ false → Still x y
  args_line line (here _) m (spans_at _ n (spans_at _ colon (spans_part _ _ type (spans_part _ _ l (spans_part _ _ more (spans_at _ closes (spans_end _))))))) e =
      let rest = more (shut_word words aliases refl closes) in
      let place = l rest.shut in
      calm_more words aliases refl refl m (arg_quiet n colon (type place.shut) (quiet_join words aliases place.quiet (quiet_join words aliases rest.quiet (quiet_word words aliases refl closes))))
  args_line line (later _ z) m s e = elim z [ ]

  more_args_line : (line : TextLine) {x a y : List Event} → Has line (lines_of parts.MoreArgs) → Moves line.0 x a → Spanned line.1 a y → arrow_next y ≡ false → Still x y
  more_args_line line (here _) m (spans_at _ n (spans_at _ colon (spans_part _ _ type (spans_part _ _ l (spans_part _ _ more (spans_end _)))))) e =
      let rest = more e in
      let place = l rest.shut in
      calm_more words aliases refl refl m (arg_quiet n colon (type place.shut) (quiet_join words aliases place.quiet rest.quiet))
  more_args_line line (later _ z) m s e = elim z [ ]

  -- Files

  whole_quiet : {p : Place} {x a y : List Event} → Moves p x a → Quiet words aliases x y → arrow_next x ≡ false → piece (marked x) ≡ [] → Whole words aliases y → Whole words aliases x
  whole_quiet m q shut ends w = record { closed_is = q.closed_is ∙ w.closed_is; begun = q.begun w.begun; shut = shut; ends = ends }

  piece_start : (q : Place) (n : ℕ) (es : List Event) → is_start q ≡ true → piece (event q n ∷ es) ≡ []
  piece_start q n es h = ap (λ (b : Bool). if b then [] else (event q n ∷ piece es)) h

  starts : {p : Place} {x a : List Event} → Moves p x a → ((b c : Bool) → is_start (marked_at p b c) ≡ true) → piece (marked x) ≡ []
  starts {p} {x} {a} m h = ap (λ es. piece (marked es)) m.is ∙ piece_start (marked_at p (arrow_next a) (first_or_false (closed a))) m.name (marked a) (h _ _)

  file_line : (line : TextLine) {x a y : List Event} → Has line (lines_of parts.File) → Moves line.0 x a → Spanned line.1 a y → y ≡ [] → arrow_next y ≡ false → Whole words aliases x
  file_line line (here _) m (spans_part _ _ b (spans_part _ _ f (spans_end _))) e o =
      let w = f o e in
      whole_quiet m (quiet_join words aliases (quiet_word words aliases refl m) (b w.shut).quiet) (shut_word words aliases refl m) (starts m (λ _ _. refl)) w
  file_line line (later _ (here _)) m (spans_part _ _ n (spans_part _ _ more (spans_at _ o (spans_part _ _ b (spans_part _ _ f (spans_end _)))))) e shut =
      let w = f shut e in
      let names = more (shut_word words aliases refl o) in
      let inner = quiet_join words aliases (n names.shut).quiet (quiet_join words aliases names.quiet (quiet_join words aliases (quiet_word words aliases refl o) (b w.shut).quiet)) in
      whole_quiet m (quiet_join words aliases (quiet_word words aliases refl m) inner) (shut_word words aliases refl m) (starts m (λ _ _. refl)) w
  file_line line {x} {a} (later _ (later _ (here _))) m (spans_at _ {y = b} equals (spans_part _ {y = c} own type (spans_part _ _ f (spans_end _)))) e shut =
      let w = f shut e in
      let t = type w.shut in
      record {
        closed_is = ap closed m.is ∙ ap closed equals.is ∙ t.calm.quiet.closed_is ∙ w.closed_is;
        begun = begun_more words aliases m (defined equals own w) ((quiet_word words aliases refl equals).begun (t.calm.quiet.begun w.begun));
        shut = shut_word words aliases refl m;
        ends = starts m (λ _ _. refl);
      }
    where
      defined : (equals : Moves places.TypeAliasEquals a b) → Sub words aliases (symbols.Part parts.OneType ∷ []) b c → Whole words aliases c → IsDefined a
      defined equals own w = record {
        equals = equals.name;
        own = own.own;
        behind = c;
        kinds = own.kinds;
        is = equals.is ∙ ap (λ es. event places.TypeAliasEquals equals.name ∷ es) own.is;
        reads = own.reads;
        closed_is = w.closed_is;
        shut = w.shut;
        ends = w.ends;
      }
  file_line line (later _ (later _ (later _ (here _)))) m (spans_at _ equals (spans_part _ _ value (spans_part _ _ f (spans_end _)))) e shut =
      let w = f shut e in
      whole_quiet m (quiet_join words aliases (quiet_word words aliases refl m) (quiet_join words aliases (quiet_word words aliases refl equals) (value w.shut).quiet)) (shut_word words aliases refl m) (starts m (λ _ _. refl)) w
  file_line line (later _ (later _ (later _ (later _ z)))) m s e shut = elim z [ ]

  line_means : (n : Part) (line : TextLine) {x a y : List Event} → Has line (lines_of n) → Moves line.0 x a → Spanned line.1 a y → arrow_next y ≡ false → means words aliases n x y
  line_means parts.File line has m s o = λ e. file_line line has m s e o
  line_means parts.OpBody line has m s o = body_line line has m s o
  line_means parts.BlockArgs line has m s o = args_line line has m s o
  line_means parts.MoreArgs line has m s o = more_args_line line has m s o
  line_means parts.OneType line has m s o = type_line words aliases line has m s o
  line_means parts.InnerType line has m s o = inner_type_line words aliases line has m s o
  line_means parts.IntegerType line has m s o = element_line words aliases places.UnsupportedTypeWord refl line has m s o
  line_means parts.InnerIntegerType line has m s o = element_line words aliases places.UnsupportedInnerWord refl line has m s o
  line_means parts.Types line has m s o = types_line words aliases line has m s o
  line_means parts.InnerTypes line has m s o = inner_types_line words aliases line has m s o
  line_means parts.MoreTypes line has m s o = more_line words aliases line has m s o
  line_means parts.MoreInnerTypes line has m s o = more_inner_line words aliases line has m s o
  line_means parts.Results line has m s o = results_line words aliases line has m s o
  line_means parts.InnerResults line has m s o = inner_results_line words aliases line has m s o
  line_means parts.AfterResults line has m s o = inr (after_line words aliases line has m s o)
  line_means parts.AfterInnerResults line has m s o = inr (after_inner_line words aliases line has m s o)
  line_means parts.Dimensions line has m s o = sizes_line words aliases line has m s o
  line_means parts.MemrefEnd line has m s o = ended_line words aliases line has m s o
  line_means n line has m s o = part_line words aliases n line (lines_tame n refl) has m s o

  none_several : {x : List Event} → arrow_next x ≡ false → Several words aliases x x
  none_several {x} o = record { calm = calm_refl words aliases o; begins = λ closes l rest good e t. record { list = l; good = good; is = ap (λ a. acted t a (it words aliases x)) closes ∙ e } }

  none_more : {x : List Event} → arrow_next x ≡ false → More words aliases x x
  none_more o = record { calm = calm_refl words aliases o; begins = λ l rest good e. record { list = l; good = good; is = e } }

  left_out : (n : Part) (x : List Event) → empty_at n ≡ true → arrow_next x ≡ false → means words aliases n x x
  left_out parts.File x h o = λ e. record { closed_is = ap closed e; begun = subst (λ (es : List Event). AreBegun words aliases es) (sym e) tt; shut = o; ends = ap (λ es. piece (marked es)) e }
  left_out parts.OpBody x h o = absurd (true≢false (sym h))
  left_out parts.OneType x h o = absurd (true≢false (sym h))
  left_out parts.InnerType x h o = absurd (true≢false (sym h))
  left_out parts.IntegerType x h o = absurd (true≢false (sym h))
  left_out parts.InnerIntegerType x h o = absurd (true≢false (sym h))
  left_out parts.Types x h o = none_several o
  left_out parts.InnerTypes x h o = none_several o
  left_out parts.MoreTypes x h o = none_more o
  left_out parts.MoreInnerTypes x h o = none_more o
  left_out parts.Results x h o = absurd (true≢false (sym h))
  left_out parts.InnerResults x h o = absurd (true≢false (sym h))
  left_out parts.AfterResults x h o = inl refl
  left_out parts.AfterInnerResults x h o = inl refl
  left_out parts.Dimensions x h o = record { calm = calm_refl words aliases o; begins = λ l rest some e. record { term = l; some = some; is = e } }
  left_out parts.MemrefEnd x h o = absurd (true≢false (sym h))
  left_out _ x h o = calm_refl words aliases o

  sub_line : (n : Part) (line : TextLine) {x a y : List Event} → Has line (lines_of n) → Moves line.0 x a → Spanned line.1 a y → Sub words aliases (symbols.Part n ∷ []) x y
  sub_line n line has m s =
      let r = sub_of words aliases line.1 s in
      record {
        own = event line.0 m.name ∷ r.own;
        kinds = m.kind ∷ r.kinds;
        reads = opens n line m.kind has m.fits (subst (λ (ss : List Wanted). Reads generic ss (places_of r.own) r.kinds) (sym (append_end line.1)) r.reads);
        is = m.is ∙ ap (λ es. event line.0 m.name ∷ es) r.is;
      }

  spans_of : {ss : List Wanted} {ps : List Place} {ks : List Kind} → Reads generic ss ps ks → {x y : List Event} → Run Moves ps x y → Spanned ss x y
  spans_of done (run_end x) = spans_end x
  spans_of (takes p k fit more) (run_more _ t run) = spans_at p t (spans_of more run)
  spans_of (opens n line k {ss} has fit more) (run_more _ t run) =
      let c = cut words aliases line.1 ss (spans_of more run) in spans_part n (sub_line n line has t c.front) (λ o. line_means n line has t c.front o) c.back
  spans_of (leaves n e more) {x} run = spans_part n (record { own = []; kinds = []; reads = leaves n e done; is = refl }) (λ o. left_out n x e o) (spans_of more run)

  -- each kind fits its place
  abbrev AllFit : List Place → List Kind → Type 0
  AllFit [] ks = Unit {0}
  AllFit (p ∷ ps) [] = ⊥
  AllFit (p ∷ ps) (k ∷ ks) = (fits_at p k ≡ true) × AllFit ps ks

  all_fit : {wanted : List Wanted} {ps : List Place} {ks : List Kind} → Reads generic wanted ps ks → AllFit ps ks
  all_fit done = tt
  all_fit (takes p k f more) = (f, all_fit more)
  all_fit (opens n line k has f more) = (f, all_fit more)
  all_fit (leaves n e more) = all_fit more

  served_run : (es : List Event) (ks : List Kind) → AllFit (places_of es) ks → AreServed aliases es → Run Moves (places_of es) es []
  served_run [] ks f s = run_end []
  served_run (e ∷ es) [] f s = absurd f
  served_run (e ∷ es) (k ∷ ks) f s = run_more e.place (record { name = e.name; kind = k; fits = f.0; is = refl; supported = s.0; stands = s.1 }) (served_run es ks f.1 s.2)

  -- a type alone
  pub type_begins : (es : List Event) (kinds : List Kind) → Reads generic (symbols.Part parts.OneType ∷ []) (places_of es) kinds → AreServed aliases es → is_nothing (first_of (it words aliases es)) ≡ false
  type_begins es kinds reads served = by_span (spans_of reads (served_run es kinds (all_fit reads) served))
    where
      by_span : Spanned (symbols.Part parts.OneType ∷ []) es [] → is_nothing (first_of (it words aliases es)) ≡ false
      by_span (spans_part _ _ type (spans_end _)) = let t = type refl in ap (λ ts. is_nothing (first_of ts)) t.begins.is ∙ t.begins.some

pub types_begin : TypesBegin
types_begin words aliases es kinds reads served = by_span (spans_of words aliases reads (served_run words aliases es kinds (all_fit words aliases reads) served))
  where
    by_span : Spans words aliases (symbols.Part parts.File ∷ []) es [] → AreBegun words aliases es
    by_span (spans_part _ _ file (spans_end _)) = (file refl refl).begun
