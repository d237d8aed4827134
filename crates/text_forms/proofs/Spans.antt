-- What the grammar reads has its form.
use Rattle.std.proofs.Common.{◌≡◌, Bool, true, false, List, [], ◌∷◌, ◌++◌, refl, sym, true≢false, ◌⊎◌, inl, inr}
use Rattle.line_grammar.specs.declared.Symbol.TheVariants as symbols
use Rattle.line_grammar.specs.Grammar.{Has, here, later, Reads, done, takes, opens, leaves}
use Rattle.line_grammar.specs.Conditions.{both, all_in}
use Rattle.text_grammar.specs.declared.kinds.Kind.{Kind}
use Rattle.text_grammar.specs.declared.places.Place.{Place}
use Rattle.text_grammar.specs.declared.places.Place.TheVariants as places
use Rattle.text_grammar.specs.declared.parts.Part.{Part}
use Rattle.text_grammar.specs.declared.parts.Part.TheVariants as parts
use Rattle.text_grammar.specs.Table.{TextLine, Wanted, alone, empty_at, function_type, generic, lines_of, location, own_attributes, plain_types}
use Rattle.text_forms.specs.Laws.{Next, ReadsAsFile}
use Rattle.text_forms.specs.Forms.{IsArgs, IsBlocks, IsBody, IsFile, IsLoc, IsNames, IsOps, IsRegions, Run, Still, arg, block, body, file_alias, file_op, is_still, loc, name, no_args, no_blocks, no_file, no_loc, no_names, no_ops, no_regions, op, region, run_end, run_more, still_end, still_more}

-- parts that are such words alone
abbrev is_still_part : Part → Bool
is_still_part parts.File = false
is_still_part parts.MoreResults = false
is_still_part parts.OpBody = false
is_still_part parts.Regions = false
is_still_part parts.MoreRegions = false
is_still_part parts.Region = false
is_still_part parts.Ops = false
is_still_part parts.Blocks = false
is_still_part parts.BlockArgs = false
is_still_part parts.MoreArgs = false
is_still_part parts.Loc = false
is_still_part parts.AliasValue = false
is_still_part _ = true

abbrev is_still_symbol : Wanted → Bool
is_still_symbol (symbols.At p) = is_still p
is_still_symbol (symbols.Part n) = is_still_part n

abbrev is_still_line : TextLine → Bool
is_still_line line = both (is_still line.0) (all_in is_still_symbol line.1)

lines_still : (n : Part) → is_still_part n ≡ true → all_in is_still_line (lines_of n) ≡ true
lines_still parts.File h = absurd (true≢false (sym h))
lines_still parts.MoreResults h = absurd (true≢false (sym h))
lines_still parts.OpBody h = absurd (true≢false (sym h))
lines_still parts.Regions h = absurd (true≢false (sym h))
lines_still parts.MoreRegions h = absurd (true≢false (sym h))
lines_still parts.Region h = absurd (true≢false (sym h))
lines_still parts.Ops h = absurd (true≢false (sym h))
lines_still parts.Blocks h = absurd (true≢false (sym h))
lines_still parts.BlockArgs h = absurd (true≢false (sym h))
lines_still parts.MoreArgs h = absurd (true≢false (sym h))
lines_still parts.Loc h = absurd (true≢false (sym h))
lines_still parts.AliasValue h = absurd (true≢false (sym h))
lines_still _ h = refl

both_first : (a b : Bool) → both a b ≡ true → a ≡ true
both_first true b h = refl
both_first false b h = absurd (true≢false (sym h))

both_second : (a b : Bool) → both a b ≡ true → b ≡ true
both_second true b h = h
both_second false b h = absurd (true≢false (sym h))

first_of : (b c : Bool) → elim b [ true ↦ c | false ↦ false ] ≡ true → b ≡ true
first_of true c h = refl
first_of false c h = absurd (true≢false (sym h))

rest_of : (b c : Bool) → elim b [ true ↦ c | false ↦ false ] ≡ true → c ≡ true
rest_of true c h = h
rest_of false c h = absurd (true≢false (sym h))

one_is : (lines : List TextLine) (line : TextLine) → Has line lines → all_in is_still_line lines ≡ true → is_still_line line ≡ true
one_is [] line has h = elim has [ ]
one_is (l ∷ ls) line (here xs) h = first_of (is_still_line l) (all_in is_still_line ls) h
one_is (l ∷ ls) line (later y has) h = one_is ls line has (rest_of (is_still_line l) (all_in is_still_line ls) h)

has_either : (ls ms : List TextLine) (line : TextLine) → Has line (ls ++ ms) → Has line ls ⊎ Has line ms
has_either [] ms line has = inr has
has_either (l ∷ ls) ms line (here xs) = inl (here ls)
has_either (l ∷ ls) ms line (later y has) = by_cases (has_either ls ms line has)
  where
    by_cases : Has line ls ⊎ Has line ms → Has line (l ∷ ls) ⊎ Has line ms
    by_cases (inl h) = inl (later l h)
    by_cases (inr h) = inr h

module _ {X : Type 0} (T : Place → X → X → Type 0) where
  -- a region, the names of results behind a comma, and what an alias stands for
  pub record OneRegion (x y : X) : Type 0 where
    pub a : X
    pub b : X
    pub c : X
    pub begins : T places.RegionOpen x a
    pub ops : IsOps T a b
    pub blocks : IsBlocks T b c
    pub ends : T places.RegionClose c y

  pub record MoreNames (x y : X) : Type 0 where
    pub a : X
    pub still : Still T x a
    pub names : IsNames T a y

  pub record Located (x y : X) : Type 0 where
    pub a : X
    pub still : Still T x a
    pub location : IsLoc T a y

  -- what stands for each part
  abbrev means : Part → X → X → Type 0
  means parts.File = IsFile T
  means parts.MoreResults = MoreNames
  means parts.OpBody = IsBody T
  means parts.Regions = IsRegions T
  means parts.MoreRegions = IsRegions T
  means parts.Region = OneRegion
  means parts.Ops = IsOps T
  means parts.Blocks = IsBlocks T
  means parts.BlockArgs = IsArgs T
  means parts.MoreArgs = IsArgs T
  means parts.Loc = IsLoc T
  means parts.AliasValue = Located
  means _ = Still T

  -- and for symbols
  pub data Spans : List Wanted → X → X → Type 0 where
    spans_end : (x : X) → Spans [] x x
    spans_at : (p : Place) {ss : List Wanted} {x y z : X} → T p x y → Spans ss y z → Spans (symbols.At p ∷ ss) x z
    spans_part : (n : Part) {ss : List Wanted} {x y z : X} → means n x y → Spans ss y z → Spans (symbols.Part n ∷ ss) x z

  pub record Cut (xs ys : List Wanted) (x z : X) : Type 0 where
    pub mid : X
    pub front : Spans xs x mid
    pub back : Spans ys mid z

  cut : (xs ys : List Wanted) {x z : X} → Spans (xs ++ ys) x z → Cut xs ys x z
  cut [] ys {x} s = record { mid = x; front = spans_end x; back = s }
  cut (symbols.At p ∷ xs) ys (spans_at _ t s) = let c = cut xs ys s in record { mid = c.mid; front = spans_at p t c.front; back = c.back }
  cut (symbols.Part n ∷ xs) ys (spans_part _ t s) = let c = cut xs ys s in record { mid = c.mid; front = spans_part n t c.front; back = c.back }

  -- Still words

  pub still_join : {x y z : X} → Still T x y → Still T y z → Still T x z
  still_join (still_end x) t = t
  still_join (still_more p h s more) t = still_more p h s (still_join more t)

  pub still_last : (p : Place) {x y z : X} → is_still p ≡ true → Still T x y → T p y z → Still T x z
  still_last p h s t = still_join s (still_more p h t (still_end _))

  still_means : (n : Part) → is_still_part n ≡ true → (x y : X) → means n x y → Still T x y
  still_means parts.File h x y m = absurd (true≢false (sym h))
  still_means parts.MoreResults h x y m = absurd (true≢false (sym h))
  still_means parts.OpBody h x y m = absurd (true≢false (sym h))
  still_means parts.Regions h x y m = absurd (true≢false (sym h))
  still_means parts.MoreRegions h x y m = absurd (true≢false (sym h))
  still_means parts.Region h x y m = absurd (true≢false (sym h))
  still_means parts.Ops h x y m = absurd (true≢false (sym h))
  still_means parts.Blocks h x y m = absurd (true≢false (sym h))
  still_means parts.BlockArgs h x y m = absurd (true≢false (sym h))
  still_means parts.MoreArgs h x y m = absurd (true≢false (sym h))
  still_means parts.Loc h x y m = absurd (true≢false (sym h))
  still_means parts.AliasValue h x y m = absurd (true≢false (sym h))
  still_means _ h x y m = m

  means_still : (n : Part) → is_still_part n ≡ true → (x y : X) → Still T x y → means n x y
  means_still parts.File h x y m = absurd (true≢false (sym h))
  means_still parts.MoreResults h x y m = absurd (true≢false (sym h))
  means_still parts.OpBody h x y m = absurd (true≢false (sym h))
  means_still parts.Regions h x y m = absurd (true≢false (sym h))
  means_still parts.MoreRegions h x y m = absurd (true≢false (sym h))
  means_still parts.Region h x y m = absurd (true≢false (sym h))
  means_still parts.Ops h x y m = absurd (true≢false (sym h))
  means_still parts.Blocks h x y m = absurd (true≢false (sym h))
  means_still parts.BlockArgs h x y m = absurd (true≢false (sym h))
  means_still parts.MoreArgs h x y m = absurd (true≢false (sym h))
  means_still parts.Loc h x y m = absurd (true≢false (sym h))
  means_still parts.AliasValue h x y m = absurd (true≢false (sym h))
  means_still _ h x y m = m

  still_spans : (ss : List Wanted) {x y : X} → all_in is_still_symbol ss ≡ true → Spans ss x y → Still T x y
  still_spans [] h (spans_end x) = still_end x
  still_spans (symbols.At p ∷ ss) h (spans_at _ t s) = still_more p (first_of (is_still p) (all_in is_still_symbol ss) h) t (still_spans ss (rest_of (is_still p) (all_in is_still_symbol ss) h) s)
  still_spans (symbols.Part n ∷ ss) h (spans_part _ t s) =
      still_join (still_means n (first_of (is_still_part n) (all_in is_still_symbol ss) h) _ _ t) (still_spans ss (rest_of (is_still_part n) (all_in is_still_symbol ss) h) s)

  still_line : (line : TextLine) {x a y : X} → is_still_line line ≡ true → T line.0 x a → Spans line.1 a y → Still T x y
  still_line line h t s = still_more line.0 (both_first (is_still line.0) (all_in is_still_symbol line.1) h) t (still_spans line.1 (both_second (is_still line.0) (all_in is_still_symbol line.1) h) s)

  -- behind other words

  regions_then : {x y z : X} → IsRegions T x y → Still T y z → IsRegions T x z
  regions_then (no_regions s) t = no_regions (still_join s t)
  regions_then (region s o ops blocks c more) t = region s o ops blocks c (regions_then more t)

  regions_after : {x y z : X} → Still T x y → IsRegions T y z → IsRegions T x z
  regions_after s (no_regions t) = no_regions (still_join s t)
  regions_after s (region t o ops blocks c more) = region (still_join s t) o ops blocks c more

  args_then : {x y z : X} → IsArgs T x y → Still T y z → IsArgs T x z
  args_then (no_args s) t = no_args (still_join s t)
  args_then (arg s a u l more) t = arg s a u l (args_then more t)

  -- Parts that are more

  file_line : (line : TextLine) {x a y : X} → Has line (lines_of parts.File) → T line.0 x a → Spans line.1 a y → IsFile T x y
  file_line line (here _) t (spans_part _ b (spans_part _ f (spans_end _))) = file_op (no_names _) t b f
  file_line line (later _ (here _)) t (spans_part _ n (spans_part _ m (spans_at _ o (spans_part _ b (spans_part _ f (spans_end _)))))) = file_op (name t (still_join n m.still) m.names) o b f
  file_line line (later _ (later _ (here _))) t (spans_at _ e (spans_part _ s (spans_part _ f (spans_end _)))) = file_alias places.TypeAliasName refl t (still_more _ refl e s) (no_loc _) f
  file_line line (later _ (later _ (later _ (here _)))) t (spans_at _ e (spans_part _ s (spans_part _ f (spans_end _)))) = file_alias places.AttrAliasName refl t (still_more _ refl e s.still) s.location f
  file_line line (later _ (later _ (later _ (later _ x)))) t _ = elim x [ ]

  ops_line : (line : TextLine) {x a y : X} → Has line (lines_of parts.Ops) → T line.0 x a → Spans line.1 a y → IsOps T x y
  ops_line line (here _) t (spans_part _ b (spans_part _ f (spans_end _))) = op (no_names _) t b f
  ops_line line (later _ (here _)) t (spans_part _ n (spans_part _ m (spans_at _ o (spans_part _ b (spans_part _ f (spans_end _)))))) = op (name t (still_join n m.still) m.names) o b f
  ops_line line (later _ (later _ x)) t _ = elim x [ ]

  names_line : (line : TextLine) {x a y : X} → Has line (lines_of parts.MoreResults) → T line.0 x a → Spans line.1 a y → MoreNames x y
  names_line line (here _) t (spans_end _) = record { a = _; still = still_more _ refl t (still_end _); names = no_names _ }
  names_line line (later _ (here _)) t (spans_at _ r (spans_part _ n (spans_part _ m (spans_end _)))) = record { a = _; still = still_more _ refl t (still_end _); names = name r (still_join n m.still) m.names }
  names_line line (later _ (later _ x)) t _ = elim x [ ]

  body_line : (line : TextLine) {x a y : X} → Has line (lines_of parts.OpBody) → T line.0 x a → Spans line.1 a y → IsBody T x y
  body_line line (here _) t (spans_part _ uses (spans_at _ ends (spans_part _ successors (spans_part _ props (spans_part _ regions (spans_part _ dict (spans_at _ colon (spans_at _ begins (spans_part _ types (spans_at _ closes (spans_at _ arrow (spans_part _ results (spans_part _ l (spans_end _)))))))))))))) =
      body (still_join (still_more _ refl t uses) (still_more _ refl ends (still_join successors props))) regions dict colon begins (still_last _ refl types closes) arrow results l
  body_line line (later _ x) t _ = elim x [ ]

  regions_line : (line : TextLine) {x a y : X} → Has line (lines_of parts.Regions) → T line.0 x a → Spans line.1 a y → IsRegions T x y
  regions_line line (here _) t (spans_part _ r (spans_part _ more (spans_at _ closes (spans_end _)))) =
      region (still_more _ refl t (still_end _)) r.begins r.ops r.blocks r.ends (regions_then more (still_more _ refl closes (still_end _)))
  regions_line line (later _ x) t _ = elim x [ ]

  more_regions_line : (line : TextLine) {x a y : X} → Has line (lines_of parts.MoreRegions) → T line.0 x a → Spans line.1 a y → IsRegions T x y
  more_regions_line line (here _) t (spans_part _ r (spans_part _ more (spans_end _))) = region (still_more _ refl t (still_end _)) r.begins r.ops r.blocks r.ends more
  more_regions_line line (later _ x) t _ = elim x [ ]

  region_line : (line : TextLine) {x a y : X} → Has line (lines_of parts.Region) → T line.0 x a → Spans line.1 a y → OneRegion x y
  region_line line (here _) t (spans_part _ ops (spans_part _ blocks (spans_at _ closes (spans_end _)))) = record { a = _; b = _; c = _; begins = t; ops = ops; blocks = blocks; ends = closes }
  region_line line (later _ x) t _ = elim x [ ]

  blocks_line : (line : TextLine) {x a y : X} → Has line (lines_of parts.Blocks) → T line.0 x a → Spans line.1 a y → IsBlocks T x y
  blocks_line line (here _) t (spans_part _ args (spans_at _ colon (spans_part _ ops (spans_part _ blocks (spans_end _))))) = block t args colon ops blocks
  blocks_line line (later _ x) t _ = elim x [ ]

  args_line : (line : TextLine) {x a y : X} → Has line (lines_of parts.BlockArgs) → T line.0 x a → Spans line.1 a y → IsArgs T x y
  args_line line (here _) t (spans_at _ n (spans_at _ colon (spans_part _ type (spans_part _ l (spans_part _ more (spans_at _ closes (spans_end _))))))) =
      arg (still_more _ refl t (still_end _)) n (still_more _ refl colon type) l (args_then more (still_more _ refl closes (still_end _)))
  args_line line (later _ x) t _ = elim x [ ]

  more_args_line : (line : TextLine) {x a y : X} → Has line (lines_of parts.MoreArgs) → T line.0 x a → Spans line.1 a y → IsArgs T x y
  more_args_line line (here _) t (spans_at _ n (spans_at _ colon (spans_part _ type (spans_part _ l (spans_part _ more (spans_end _)))))) = arg (still_more _ refl t (still_end _)) n (still_more _ refl colon type) l more
  more_args_line line (later _ x) t _ = elim x [ ]

  loc_line : (line : TextLine) {x a y : X} → Has line location → T line.0 x a → Spans line.1 a y → IsLoc T x y
  loc_line line (here _) t (spans_at _ o (spans_part _ b (spans_at _ c (spans_end _)))) = loc t (still_more _ refl o b) c
  loc_line line (later _ x) t _ = elim x [ ]

  alias_line : (line : TextLine) {x a y : X} → Has line (lines_of parts.AliasValue) → T line.0 x a → Spans line.1 a y → Located x y
  alias_line line {x} {a} {y} has t s = by_cases (has_either (own_attributes ++ plain_types parts.IntegerType ++ function_type ++ alone places.UnsupportedAliasWord) location line has)
    where
      by_cases : Has line (own_attributes ++ plain_types parts.IntegerType ++ function_type ++ alone places.UnsupportedAliasWord) ⊎ Has line location → Located x y
      by_cases (inl h) = record { a = y; still = still_line line (one_is _ line h refl) t s; location = no_loc y }
      by_cases (inr h) = record { a = x; still = still_end x; location = loc_line line h t s }

  line_means : (n : Part) (line : TextLine) {x a y : X} → Has line (lines_of n) → T line.0 x a → Spans line.1 a y → means n x y
  line_means parts.File line has t s = file_line line has t s
  line_means parts.MoreResults line has t s = names_line line has t s
  line_means parts.OpBody line has t s = body_line line has t s
  line_means parts.Regions line has t s = regions_line line has t s
  line_means parts.MoreRegions line has t s = more_regions_line line has t s
  line_means parts.Region line has t s = region_line line has t s
  line_means parts.Ops line has t s = ops_line line has t s
  line_means parts.Blocks line has t s = blocks_line line has t s
  line_means parts.BlockArgs line has t s = args_line line has t s
  line_means parts.MoreArgs line has t s = more_args_line line has t s
  line_means parts.Loc line has t s = loc_line line has t s
  line_means parts.AliasValue line has t s = alias_line line has t s
  line_means n line has t s = still_line line (one_is (lines_of n) line has (lines_still n refl)) t s

  left : (n : Part) (x : X) → empty_at n ≡ true → means n x x
  left parts.File x e = no_file x
  left parts.MoreResults x e = absurd (true≢false (sym e))
  left parts.OpBody x e = absurd (true≢false (sym e))
  left parts.Regions x e = no_regions (still_end x)
  left parts.MoreRegions x e = no_regions (still_end x)
  left parts.Region x e = absurd (true≢false (sym e))
  left parts.Ops x e = no_ops x
  left parts.Blocks x e = no_blocks x
  left parts.BlockArgs x e = no_args (still_end x)
  left parts.MoreArgs x e = no_args (still_end x)
  left parts.Loc x e = no_loc x
  left parts.AliasValue x e = absurd (true≢false (sym e))
  left _ x e = still_end x

  spans_of : {ss : List Wanted} {ps : List Place} {ks : List Kind} → Reads generic ss ps ks → {x y : X} → Run T ps x y → Spans ss x y
  spans_of done (run_end x) = spans_end x
  spans_of (takes p k fit more) (run_more _ t run) = spans_at p t (spans_of more run)
  spans_of (opens n line k {ss} has fit more) (run_more _ t run) = let c = cut line.1 ss (spans_of more run) in spans_part n (line_means n line has t c.front) c.back
  spans_of (leaves n e more) {x} run = spans_part n (left n x e) (spans_of more run)

  -- what is read as a file is a file
  pub spanned : {ps : List Place} {ks : List Kind} → Reads generic (symbols.Part parts.File ∷ []) ps ks → {x y : X} → Run T ps x y → IsFile T x y
  spanned reads run = whole (spans_of reads run)
    where
      whole : {x y : X} → Spans (symbols.Part parts.File ∷ []) x y → IsFile T x y
      whole (spans_part _ f (spans_end _)) = f

-- Places one by one

all_places : (ps : List Place) → Run Next ps ps []
all_places [] = run_end []
all_places (p ∷ ps) = run_more p refl (all_places ps)

pub reads_as_file : ReadsAsFile
reads_as_file places kinds reads = spanned Next reads (all_places places)
