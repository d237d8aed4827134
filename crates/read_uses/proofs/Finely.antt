-- What the grammar reads has its finer form.
use Rattle.std.proofs.Common.{◌≡◌, Bool, true, false, List, [], ◌∷◌, ◌++◌, refl, sym, true≢false, ◌⊎◌, inl, inr}
use Rattle.line_grammar.specs.declared.Symbol.TheVariants as symbols
use Rattle.line_grammar.specs.Grammar.{Has, here, later, Reads, done, takes, opens, leaves}
use Rattle.line_grammar.specs.Conditions.{both, all_in}
use Rattle.text_grammar.specs.declared.kinds.Kind.{Kind}
use Rattle.text_grammar.specs.declared.places.Place.{Place}
use Rattle.text_grammar.specs.declared.places.Place.TheVariants as places
use Rattle.text_grammar.specs.declared.parts.Part.{Part}
use Rattle.text_grammar.specs.declared.parts.Part.TheVariants as parts
use Rattle.text_grammar.specs.Table.{TextLine, Wanted, alone, empty_at, function_type, generic, lines_of, location, own_attributes, plain_types}
use Rattle.text_forms.specs.Laws.{Next}
use Rattle.text_forms.specs.Forms.{Run, run_end, run_more}
use Rattle.read_uses.specs.Laws.{ReadsFinely}
use Rattle.read_uses.specs.Fine.{Args, Blocks, Body, Counting, File, Loc, Mute, Names, Ops, Regions, Uses, a_use, arg, block, body, file_alias, file_op, is_mute, last_name, loc, many, mute_end, mute_more, next_name, no_args, no_blocks, no_file, no_loc, no_names, no_ops, no_regions, no_uses, one, op, region}

-- parts that are such words alone
abbrev is_mute_part : Part → Bool
is_mute_part parts.File = false
is_mute_part parts.MoreResults = false
is_mute_part parts.OpBody = false
is_mute_part parts.Regions = false
is_mute_part parts.MoreRegions = false
is_mute_part parts.Region = false
is_mute_part parts.Ops = false
is_mute_part parts.Blocks = false
is_mute_part parts.BlockArgs = false
is_mute_part parts.MoreArgs = false
is_mute_part parts.Loc = false
is_mute_part parts.AliasValue = false
is_mute_part parts.ResultCount = false
is_mute_part parts.Uses = false
is_mute_part parts.MoreUses = false
is_mute_part _ = true

abbrev is_mute_symbol : Wanted → Bool
is_mute_symbol (symbols.At p) = is_mute p
is_mute_symbol (symbols.Part n) = is_mute_part n

abbrev is_mute_line : TextLine → Bool
is_mute_line line = both (is_mute line.0) (all_in is_mute_symbol line.1)

lines_mute : (n : Part) → is_mute_part n ≡ true → all_in is_mute_line (lines_of n) ≡ true
lines_mute parts.File h = absurd (true≢false (sym h))
lines_mute parts.MoreResults h = absurd (true≢false (sym h))
lines_mute parts.OpBody h = absurd (true≢false (sym h))
lines_mute parts.Regions h = absurd (true≢false (sym h))
lines_mute parts.MoreRegions h = absurd (true≢false (sym h))
lines_mute parts.Region h = absurd (true≢false (sym h))
lines_mute parts.Ops h = absurd (true≢false (sym h))
lines_mute parts.Blocks h = absurd (true≢false (sym h))
lines_mute parts.BlockArgs h = absurd (true≢false (sym h))
lines_mute parts.MoreArgs h = absurd (true≢false (sym h))
lines_mute parts.Loc h = absurd (true≢false (sym h))
lines_mute parts.AliasValue h = absurd (true≢false (sym h))
lines_mute parts.ResultCount h = absurd (true≢false (sym h))
lines_mute parts.Uses h = absurd (true≢false (sym h))
lines_mute parts.MoreUses h = absurd (true≢false (sym h))
lines_mute _ h = refl

both_first : (a b : Bool) → both a b ≡ true → a ≡ true
both_first true b h = refl
both_first false b h = absurd (true≢false (sym h))

both_second : (a b : Bool) → both a b ≡ true → b ≡ true
both_second true b h = h
both_second false b h = absurd (true≢false (sym h))

first_of : (b c : Bool) → elim b [ true ↦ c | false ↦ false ] ≡ true → b ≡ true
first_of true c h = refl
first_of false c h = absurd (true≢false (sym h))

rest_of : (b c : Bool) → elim b [ true ↦ c | false ↦ false ] ≡ true → c ≡ true
rest_of true c h = h
rest_of false c h = absurd (true≢false (sym h))

one_is : (lines : List TextLine) (line : TextLine) → Has line lines → all_in is_mute_line lines ≡ true → is_mute_line line ≡ true
one_is [] line has h = elim has [ ]
one_is (l ∷ ls) line (here xs) h = first_of (is_mute_line l) (all_in is_mute_line ls) h
one_is (l ∷ ls) line (later y has) h = one_is ls line has (rest_of (is_mute_line l) (all_in is_mute_line ls) h)

has_either : (ls ms : List TextLine) (line : TextLine) → Has line (ls ++ ms) → Has line ls ⊎ Has line ms
has_either [] ms line has = inr has
has_either (l ∷ ls) ms line (here xs) = inl (here ls)
has_either (l ∷ ls) ms line (later y has) = by_cases (has_either ls ms line has)
  where
    by_cases : Has line ls ⊎ Has line ms → Has line (l ∷ ls) ⊎ Has line ms
    by_cases (inl h) = inl (later l h)
    by_cases (inr h) = inr h

module _ {X : Type 0} (T : Place → X → X → Type 0) where
  -- a region, the names of results behind a comma, and what an alias stands for
  pub record OneRegion (x y : X) : Type 0 where
    pub a : X
    pub b : X
    pub c : X
    pub begins : T places.RegionOpen x a
    pub ops : Ops T a b
    pub blocks : Blocks T b c
    pub ends : T places.RegionClose c y

  abbrev MoreNames : X → X → Type 0
  MoreNames x y = (z w : X) → T places.ResultName z w → Counting T w x → Names T z y

  pub record LaterUses (x y : X) : Type 0 where
    pub a : X
    pub mute : Mute T x a
    pub uses : Uses T a y

  pub record Located (x y : X) : Type 0 where
    pub a : X
    pub still : Mute T x a
    pub location : Loc T a y

  -- what stands for each part
  abbrev means : Part → X → X → Type 0
  means parts.File = File T
  means parts.MoreResults = MoreNames
  means parts.OpBody = Body T
  means parts.Regions = Regions T
  means parts.MoreRegions = Regions T
  means parts.Region = OneRegion
  means parts.Ops = Ops T
  means parts.Blocks = Blocks T
  means parts.BlockArgs = Args T
  means parts.MoreArgs = Args T
  means parts.Loc = Loc T
  means parts.AliasValue = Located
  means parts.ResultCount = Counting T
  means parts.Uses = Uses T
  means parts.MoreUses = LaterUses
  means _ = Mute T

  -- and for symbols
  pub data Spans : List Wanted → X → X → Type 0 where
    spans_end : (x : X) → Spans [] x x
    spans_at : (p : Place) {ss : List Wanted} {x y z : X} → T p x y → Spans ss y z → Spans (symbols.At p ∷ ss) x z
    spans_part : (n : Part) {ss : List Wanted} {x y z : X} → means n x y → Spans ss y z → Spans (symbols.Part n ∷ ss) x z

  pub record Cut (xs ys : List Wanted) (x z : X) : Type 0 where
    pub mid : X
    pub front : Spans xs x mid
    pub back : Spans ys mid z

  cut : (xs ys : List Wanted) {x z : X} → Spans (xs ++ ys) x z → Cut xs ys x z
  cut [] ys {x} s = record { mid = x; front = spans_end x; back = s }
  cut (symbols.At p ∷ xs) ys (spans_at _ t s) = let c = cut xs ys s in record { mid = c.mid; front = spans_at p t c.front; back = c.back }
  cut (symbols.Part n ∷ xs) ys (spans_part _ t s) = let c = cut xs ys s in record { mid = c.mid; front = spans_part n t c.front; back = c.back }

  -- Still words

  pub mute_join : {x y z : X} → Mute T x y → Mute T y z → Mute T x z
  mute_join (mute_end x) t = t
  mute_join (mute_more p h s more) t = mute_more p h s (mute_join more t)

  pub mute_last : (p : Place) {x y z : X} → is_mute p ≡ true → Mute T x y → T p y z → Mute T x z
  mute_last p h s t = mute_join s (mute_more p h t (mute_end _))

  mute_means : (n : Part) → is_mute_part n ≡ true → (x y : X) → means n x y → Mute T x y
  mute_means parts.File h x y m = absurd (true≢false (sym h))
  mute_means parts.MoreResults h x y m = absurd (true≢false (sym h))
  mute_means parts.OpBody h x y m = absurd (true≢false (sym h))
  mute_means parts.Regions h x y m = absurd (true≢false (sym h))
  mute_means parts.MoreRegions h x y m = absurd (true≢false (sym h))
  mute_means parts.Region h x y m = absurd (true≢false (sym h))
  mute_means parts.Ops h x y m = absurd (true≢false (sym h))
  mute_means parts.Blocks h x y m = absurd (true≢false (sym h))
  mute_means parts.BlockArgs h x y m = absurd (true≢false (sym h))
  mute_means parts.MoreArgs h x y m = absurd (true≢false (sym h))
  mute_means parts.Loc h x y m = absurd (true≢false (sym h))
  mute_means parts.AliasValue h x y m = absurd (true≢false (sym h))
  mute_means parts.ResultCount h x y m = absurd (true≢false (sym h))
  mute_means parts.Uses h x y m = absurd (true≢false (sym h))
  mute_means parts.MoreUses h x y m = absurd (true≢false (sym h))
  mute_means _ h x y m = m

  means_mute : (n : Part) → is_mute_part n ≡ true → (x y : X) → Mute T x y → means n x y
  means_mute parts.File h x y m = absurd (true≢false (sym h))
  means_mute parts.MoreResults h x y m = absurd (true≢false (sym h))
  means_mute parts.OpBody h x y m = absurd (true≢false (sym h))
  means_mute parts.Regions h x y m = absurd (true≢false (sym h))
  means_mute parts.MoreRegions h x y m = absurd (true≢false (sym h))
  means_mute parts.Region h x y m = absurd (true≢false (sym h))
  means_mute parts.Ops h x y m = absurd (true≢false (sym h))
  means_mute parts.Blocks h x y m = absurd (true≢false (sym h))
  means_mute parts.BlockArgs h x y m = absurd (true≢false (sym h))
  means_mute parts.MoreArgs h x y m = absurd (true≢false (sym h))
  means_mute parts.Loc h x y m = absurd (true≢false (sym h))
  means_mute parts.AliasValue h x y m = absurd (true≢false (sym h))
  means_mute parts.ResultCount h x y m = absurd (true≢false (sym h))
  means_mute parts.Uses h x y m = absurd (true≢false (sym h))
  means_mute parts.MoreUses h x y m = absurd (true≢false (sym h))
  means_mute _ h x y m = m

  mute_spans : (ss : List Wanted) {x y : X} → all_in is_mute_symbol ss ≡ true → Spans ss x y → Mute T x y
  mute_spans [] h (spans_end x) = mute_end x
  mute_spans (symbols.At p ∷ ss) h (spans_at _ t s) = mute_more p (first_of (is_mute p) (all_in is_mute_symbol ss) h) t (mute_spans ss (rest_of (is_mute p) (all_in is_mute_symbol ss) h) s)
  mute_spans (symbols.Part n ∷ ss) h (spans_part _ t s) =
      mute_join (mute_means n (first_of (is_mute_part n) (all_in is_mute_symbol ss) h) _ _ t) (mute_spans ss (rest_of (is_mute_part n) (all_in is_mute_symbol ss) h) s)

  mute_line : (line : TextLine) {x a y : X} → is_mute_line line ≡ true → T line.0 x a → Spans line.1 a y → Mute T x y
  mute_line line h t s = mute_more line.0 (both_first (is_mute line.0) (all_in is_mute_symbol line.1) h) t (mute_spans line.1 (both_second (is_mute line.0) (all_in is_mute_symbol line.1) h) s)

  -- behind other words

  regions_then : {x y z : X} → Regions T x y → Mute T y z → Regions T x z
  regions_then (no_regions s) t = no_regions (mute_join s t)
  regions_then (region s o ops blocks c more) t = region s o ops blocks c (regions_then more t)

  regions_after : {x y z : X} → Mute T x y → Regions T y z → Regions T x z
  regions_after s (no_regions t) = no_regions (mute_join s t)
  regions_after s (region t o ops blocks c more) = region (mute_join s t) o ops blocks c more

  args_then : {x y z : X} → Args T x y → Mute T y z → Args T x z
  args_then (no_args s) t = no_args (mute_join s t)
  args_then (arg s a c u l more) t = arg s a c u l (args_then more t)

  -- Parts that are more

  file_line : (line : TextLine) {x a y : X} → Has line (lines_of parts.File) → T line.0 x a → Spans line.1 a y → File T x y
  file_line line (here _) t (spans_part _ b (spans_part _ f (spans_end _))) = file_op (no_names _) t b f
  file_line line (later _ (here _)) t (spans_part _ n (spans_part _ m (spans_at _ o (spans_part _ b (spans_part _ f (spans_end _)))))) = file_op (m _ _ t n) o b f
  file_line line (later _ (later _ (here _))) t (spans_at _ e (spans_part _ s (spans_part _ f (spans_end _)))) = file_alias places.TypeAliasName refl t (mute_more _ refl e s) (no_loc _) f
  file_line line (later _ (later _ (later _ (here _)))) t (spans_at _ e (spans_part _ s (spans_part _ f (spans_end _)))) = file_alias places.AttrAliasName refl t (mute_more _ refl e s.still) s.location f
  file_line line (later _ (later _ (later _ (later _ x)))) t _ = elim x [ ]

  ops_line : (line : TextLine) {x a y : X} → Has line (lines_of parts.Ops) → T line.0 x a → Spans line.1 a y → Ops T x y
  ops_line line (here _) t (spans_part _ b (spans_part _ f (spans_end _))) = op (no_names _) t b f
  ops_line line (later _ (here _)) t (spans_part _ n (spans_part _ m (spans_at _ o (spans_part _ b (spans_part _ f (spans_end _)))))) = op (m _ _ t n) o b f
  ops_line line (later _ (later _ x)) t _ = elim x [ ]

  names_line : (line : TextLine) {x a y : X} → Has line (lines_of parts.MoreResults) → T line.0 x a → Spans line.1 a y → MoreNames x y
  names_line line (here _) t (spans_end _) = λ z w n c. last_name n c t
  names_line line (later _ (here _)) t (spans_at _ r (spans_part _ k (spans_part _ m (spans_end _)))) = λ z w n c. next_name n c t (m _ _ r k)
  names_line line (later _ (later _ x)) t _ = elim x [ ]

  count_line : (line : TextLine) {x a y : X} → Has line (lines_of parts.ResultCount) → T line.0 x a → Spans line.1 a y → Counting T x y
  count_line line (here _) t (spans_at _ n (spans_end _)) = many t n
  count_line line (later _ x) t _ = elim x [ ]

  uses_line : (line : TextLine) {x a y : X} → Has line (lines_of parts.Uses) → T line.0 x a → Spans line.1 a y → Uses T x y
  uses_line line (here _) t (spans_part _ i (spans_part _ more (spans_end _))) = a_use t (mute_join i more.mute) more.uses
  uses_line line (later _ x) t _ = elim x [ ]

  more_uses_line : (line : TextLine) {x a y : X} → Has line (lines_of parts.MoreUses) → T line.0 x a → Spans line.1 a y → LaterUses x y
  more_uses_line line (here _) t (spans_at _ n (spans_part _ i (spans_part _ more (spans_end _)))) = record { a = _; mute = mute_more _ refl t (mute_end _); uses = a_use n (mute_join i more.mute) more.uses }
  more_uses_line line (later _ x) t _ = elim x [ ]

  body_line : (line : TextLine) {x a y : X} → Has line (lines_of parts.OpBody) → T line.0 x a → Spans line.1 a y → Body T x y
  body_line line (here _) t (spans_part _ uses (spans_at _ ends (spans_part _ successors (spans_part _ props (spans_part _ regions (spans_part _ dict (spans_at _ colon (spans_at _ begins (spans_part _ types (spans_at _ closes (spans_at _ arrow (spans_part _ results (spans_part _ l (spans_end _)))))))))))))) =
      body t uses (mute_more _ refl ends (mute_join successors props)) regions dict colon begins (mute_last _ refl types closes) arrow results l
  body_line line (later _ x) t _ = elim x [ ]

  regions_line : (line : TextLine) {x a y : X} → Has line (lines_of parts.Regions) → T line.0 x a → Spans line.1 a y → Regions T x y
  regions_line line (here _) t (spans_part _ r (spans_part _ more (spans_at _ closes (spans_end _)))) =
      region (mute_more _ refl t (mute_end _)) r.begins r.ops r.blocks r.ends (regions_then more (mute_more _ refl closes (mute_end _)))
  regions_line line (later _ x) t _ = elim x [ ]

  more_regions_line : (line : TextLine) {x a y : X} → Has line (lines_of parts.MoreRegions) → T line.0 x a → Spans line.1 a y → Regions T x y
  more_regions_line line (here _) t (spans_part _ r (spans_part _ more (spans_end _))) = region (mute_more _ refl t (mute_end _)) r.begins r.ops r.blocks r.ends more
  more_regions_line line (later _ x) t _ = elim x [ ]

  region_line : (line : TextLine) {x a y : X} → Has line (lines_of parts.Region) → T line.0 x a → Spans line.1 a y → OneRegion x y
  region_line line (here _) t (spans_part _ ops (spans_part _ blocks (spans_at _ closes (spans_end _)))) = record { a = _; b = _; c = _; begins = t; ops = ops; blocks = blocks; ends = closes }
  region_line line (later _ x) t _ = elim x [ ]

  blocks_line : (line : TextLine) {x a y : X} → Has line (lines_of parts.Blocks) → T line.0 x a → Spans line.1 a y → Blocks T x y
  blocks_line line (here _) t (spans_part _ args (spans_at _ colon (spans_part _ ops (spans_part _ blocks (spans_end _))))) = block t args colon ops blocks
  blocks_line line (later _ x) t _ = elim x [ ]

  args_line : (line : TextLine) {x a y : X} → Has line (lines_of parts.BlockArgs) → T line.0 x a → Spans line.1 a y → Args T x y
  args_line line (here _) t (spans_at _ n (spans_at _ colon (spans_part _ type (spans_part _ l (spans_part _ more (spans_at _ closes (spans_end _))))))) =
      arg (mute_more _ refl t (mute_end _)) n colon type l (args_then more (mute_more _ refl closes (mute_end _)))
  args_line line (later _ x) t _ = elim x [ ]

  more_args_line : (line : TextLine) {x a y : X} → Has line (lines_of parts.MoreArgs) → T line.0 x a → Spans line.1 a y → Args T x y
  more_args_line line (here _) t (spans_at _ n (spans_at _ colon (spans_part _ type (spans_part _ l (spans_part _ more (spans_end _)))))) = arg (mute_more _ refl t (mute_end _)) n colon type l more
  more_args_line line (later _ x) t _ = elim x [ ]

  loc_line : (line : TextLine) {x a y : X} → Has line location → T line.0 x a → Spans line.1 a y → Loc T x y
  loc_line line (here _) t (spans_at _ o (spans_part _ b (spans_at _ c (spans_end _)))) = loc t (mute_more _ refl o b) c
  loc_line line (later _ x) t _ = elim x [ ]

  alias_line : (line : TextLine) {x a y : X} → Has line (lines_of parts.AliasValue) → T line.0 x a → Spans line.1 a y → Located x y
  alias_line line {x} {a} {y} has t s = by_cases (has_either (own_attributes ++ plain_types parts.IntegerType ++ function_type ++ alone places.UnsupportedAliasWord) location line has)
    where
      by_cases : Has line (own_attributes ++ plain_types parts.IntegerType ++ function_type ++ alone places.UnsupportedAliasWord) ⊎ Has line location → Located x y
      by_cases (inl h) = record { a = y; still = mute_line line (one_is _ line h refl) t s; location = no_loc y }
      by_cases (inr h) = record { a = x; still = mute_end x; location = loc_line line h t s }

  line_means : (n : Part) (line : TextLine) {x a y : X} → Has line (lines_of n) → T line.0 x a → Spans line.1 a y → means n x y
  line_means parts.File line has t s = file_line line has t s
  line_means parts.MoreResults line has t s = names_line line has t s
  line_means parts.OpBody line has t s = body_line line has t s
  line_means parts.Regions line has t s = regions_line line has t s
  line_means parts.MoreRegions line has t s = more_regions_line line has t s
  line_means parts.Region line has t s = region_line line has t s
  line_means parts.Ops line has t s = ops_line line has t s
  line_means parts.Blocks line has t s = blocks_line line has t s
  line_means parts.BlockArgs line has t s = args_line line has t s
  line_means parts.MoreArgs line has t s = more_args_line line has t s
  line_means parts.Loc line has t s = loc_line line has t s
  line_means parts.AliasValue line has t s = alias_line line has t s
  line_means parts.ResultCount line has t s = count_line line has t s
  line_means parts.Uses line has t s = uses_line line has t s
  line_means parts.MoreUses line has t s = more_uses_line line has t s
  line_means n line has t s = mute_line line (one_is (lines_of n) line has (lines_mute n refl)) t s

  left : (n : Part) (x : X) → empty_at n ≡ true → means n x x
  left parts.File x e = no_file x
  left parts.MoreResults x e = absurd (true≢false (sym e))
  left parts.OpBody x e = absurd (true≢false (sym e))
  left parts.Regions x e = no_regions (mute_end x)
  left parts.MoreRegions x e = no_regions (mute_end x)
  left parts.Region x e = absurd (true≢false (sym e))
  left parts.Ops x e = no_ops x
  left parts.Blocks x e = no_blocks x
  left parts.BlockArgs x e = no_args (mute_end x)
  left parts.MoreArgs x e = no_args (mute_end x)
  left parts.Loc x e = no_loc x
  left parts.AliasValue x e = absurd (true≢false (sym e))
  left parts.ResultCount x e = one x
  left parts.Uses x e = no_uses x
  left parts.MoreUses x e = record { a = x; mute = mute_end x; uses = no_uses x }
  left _ x e = mute_end x

  spans_of : {ss : List Wanted} {ps : List Place} {ks : List Kind} → Reads generic ss ps ks → {x y : X} → Run T ps x y → Spans ss x y
  spans_of done (run_end x) = spans_end x
  spans_of (takes p k fit more) (run_more _ t run) = spans_at p t (spans_of more run)
  spans_of (opens n line k {ss} has fit more) (run_more _ t run) = let c = cut line.1 ss (spans_of more run) in spans_part n (line_means n line has t c.front) c.back
  spans_of (leaves n e more) {x} run = spans_part n (left n x e) (spans_of more run)

  -- what is read as a file is a file
  pub spanned : {ps : List Place} {ks : List Kind} → Reads generic (symbols.Part parts.File ∷ []) ps ks → {x y : X} → Run T ps x y → File T x y
  spanned reads run = whole (spans_of reads run)
    where
      whole : {x y : X} → Spans (symbols.Part parts.File ∷ []) x y → File T x y
      whole (spans_part _ f (spans_end _)) = f

-- Places one by one

all_places : (ps : List Place) → Run Next ps ps []
all_places [] = run_end []
all_places (p ∷ ps) = run_more p refl (all_places ps)

pub reads_finely : ReadsFinely
reads_finely places kinds reads = spanned Next reads (all_places places)
