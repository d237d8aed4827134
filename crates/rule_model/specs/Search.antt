-- A search for the first broken rule, which computes. It may come to no end, and then says so.
use Rattle.std.specs.Prelude.{ℕ, zero, suc, ◌+◌, ◌==◌, Bool, true, false, not, ◌&&◌, ◌||◌, List, [], ◌∷◌, ◌++◌, Option, Some, None, if◌then◌else◌, ⊤}
use Rattle.plain_tree.specs.Ops.{Op, op, Ops, end_of_ops, more_ops, Regions, end_of_regions, region, Blocks, end_of_blocks, block, PlainBlock, PlainModule}
use Rattle.rule_model.specs.declared.rules.Rule.{Rule}
use Rattle.rule_model.specs.declared.rules.Rule.TheVariants as rule
use Rattle.rule_model.specs.Words.{has, numbers, results_of, successors_of, first_block, block_of, binds, count_of}
use Rattle.rule_model.specs.Facts.{functions, Functions}
use Rattle.rule_model.specs.Paths.{ends, Frame}
use Rattle.rule_model.specs.Chains.{op_used}
use Rattle.rule_model.specs.Sites.{Site, sites}
use Rattle.rule_model.specs.Formed.{own_labels}
use Rattle.rule_model.specs.Rules.{keeps, Broken, SoundFrom}

-- What is reached from some numbers, where `next` gives what is reached from one

abbrev pub all_in : List ℕ → List ℕ → Bool
all_in [] seen = true
all_in (n ∷ ns) seen = has n seen && all_in ns seen

abbrev pub closed : (next : ℕ → List ℕ) → (seen ns : List ℕ) → Bool
closed next seen [] = true
closed next seen (n ∷ ns) = all_in (next n) seen && closed next seen ns

-- what is seen, with so much room for turns
abbrev pub grow : (next : ℕ → List ℕ) → (room : ℕ) → (work seen : List ℕ) → List ℕ
grow next zero work seen = seen
grow next (suc room) [] seen = seen
grow next (suc room) (n ∷ work) seen = grow next room (if has n seen then work else next n ++ work) (if has n seen then seen else n ∷ seen)

abbrev pub if_all : Bool → Bool → Option Bool
if_all true b = Some b
if_all false b = None

-- whether n is reached
abbrev pub among_reached : (next : ℕ → List ℕ) → (starts : List ℕ) → ℕ → Option Bool
among_reached next starts n =
    let seen : List ℕ = grow next 1000 starts [] in
    if_all (all_in starts seen && closed next seen seen) (has n seen)

-- Whether a place is reached without v

-- where a path goes on from these operations, none where v is defined before
abbrev pub leaves : ℕ → Ops → List ℕ
leaves v end_of_ops = []
leaves v (more_ops o rest) = if ends o then successors_of o else (if has v (results_of o) then [] else leaves v rest)

abbrev pub leaves_block : ℕ → Option PlainBlock → List ℕ
leaves_block v None = []
leaves_block v (Some b) = leaves v b.ops

abbrev pub is_open : ℕ → Option PlainBlock → Bool
is_open v None = false
is_open v (Some b) = not (has v (numbers b.args))

abbrev pub open_of : Blocks → ℕ → List ℕ → List ℕ
open_of bs v [] = []
open_of bs v (t ∷ ts) = if is_open v (block_of t bs) then t ∷ open_of bs v ts else open_of bs v ts

-- the blocks that a path comes to from a block's start
abbrev pub nexts : Blocks → ℕ → ℕ → List ℕ
nexts bs v l = open_of bs v (leaves_block v (block_of l bs))

abbrev pub entry_of : ℕ → Option PlainBlock → List ℕ
entry_of v None = []
entry_of v (Some b) = if has v (numbers b.args) then [] else b.label ∷ []

-- how many operations are left where the first one stands that ends the path or defines v
abbrev pub stop : ℕ → Ops → ℕ
stop v end_of_ops = 0
stop v (more_ops o rest) = if ends o || has v (results_of o) then count_of rest + 1 else stop v rest

-- nothing ended the path between the block's start and these operations
abbrev pub is_ahead : ℕ → Ops → Option PlainBlock → Bool
is_ahead v ops None = false
is_ahead v ops (Some b) = stop v b.ops == stop v ops

abbrev pub and_is : Option Bool → Bool → Option Bool
and_is None b = None
and_is (Some a) b = Some (a && b)

abbrev pub is_reached : Frame → ℕ → Option Bool
is_reached f v =
    and_is (among_reached (nexts f.blocks v) (entry_of v (first_block f.blocks)) f.label) (is_ahead v f.ops (block_of f.label f.blocks))

abbrev pub choose : Bool → Option Bool → Option Bool → Option Bool
choose true x y = x
choose false x y = y

abbrev pub is_undefined : List Frame → ℕ → Option Bool
is_undefined [] u = Some true
is_undefined (f ∷ outer) u = choose (binds u f.blocks) (is_reached f u) (is_undefined outer u)

abbrev pub or_else : Option Bool → Option Bool → Option Bool
or_else None y = None
or_else (Some true) y = Some true
or_else (Some false) y = y

abbrev pub any_of : (ℕ → Option Bool) → List ℕ → Option Bool
any_of test [] = Some false
any_of test (n ∷ ns) = or_else (test n) (any_of test ns)

-- The rules

abbrev pub is_broken : Functions → Op → Site → Rule → Option Bool
is_broken c f s rule.Defined = any_of (is_undefined s.frames) s.operands
is_broken c f s rule.OwnUse = any_of (λ v. among_reached (λ u. op_used u f) (op_used v f) v) s.results
is_broken c f s r = Some (not (keeps c s.facts r))

abbrev pub all_rules : List Rule
all_rules =
    rule.Operands ∷ rule.Results ∷ rule.Regions ∷ rule.Attribute ∷ rule.Successors ∷ rule.Terminator
    ∷ rule.Signature ∷ rule.Symbol ∷ rule.Reserved ∷ rule.ValueType ∷ rule.Defined ∷ rule.OwnUse ∷ []

-- what is found at an operation
pub data AtSite : Type 0 where
  SiteOpen : AtSite
  SiteSound : AtSite
  SiteBreaks : Rule → AtSite

abbrev pub or_next : Option Bool → Rule → AtSite → AtSite
or_next None r x = SiteOpen
or_next (Some true) r x = SiteBreaks r
or_next (Some false) r x = x

abbrev pub first_rule : Functions → Op → Site → List Rule → AtSite
first_rule c f s [] = SiteSound
first_rule c f s (r ∷ rs) = or_next (is_broken c f s r) r (first_rule c f s rs)

-- what is found among operations: the place of the first one that breaks a rule, and the rule
pub data AmongSites : Type 0 where
  SitesOpen : AmongSites
  SitesSound : AmongSites
  SitesBreak : ℕ → Rule → AmongSites

abbrev pub one_more : AmongSites → AmongSites
one_more SitesOpen = SitesOpen
one_more SitesSound = SitesSound
one_more (SitesBreak n r) = SitesBreak (suc n) r

abbrev pub or_later : AtSite → AmongSites → AmongSites
or_later SiteOpen x = SitesOpen
or_later SiteSound x = one_more x
or_later (SiteBreaks r) x = SitesBreak 0 r

abbrev pub first_site : Functions → Op → List Site → AmongSites
first_site c f [] = SitesSound
first_site c f (s ∷ ss) = or_later (first_rule c f s all_rules) (first_site c f ss)

abbrev mutual
  -- whether the labels of each region stand once there
  pub op_apart : Op → Bool
  op_apart (op k results operands regions successors) = regions_apart regions

  pub ops_apart : Ops → Bool
  ops_apart end_of_ops = true
  ops_apart (more_ops o rest) = op_apart o && ops_apart rest

  pub regions_apart : Regions → Bool
  regions_apart end_of_regions = true
  regions_apart (region blocks more) = blocks_apart blocks && regions_apart more

  pub blocks_apart : Blocks → Bool
  blocks_apart end_of_blocks = true
  blocks_apart (block label args ops more) = not (has label (own_labels more)) && (ops_apart ops && blocks_apart more)

abbrev pub if_apart : Bool → AmongSites → AmongSites
if_apart true x = x
if_apart false x = SitesOpen

abbrev pub in_function : Functions → Op → AmongSites
in_function c f = if_apart (op_apart f) (first_site c f (sites f))

-- what is found in a module: the first function, operation and rule
pub data Answer : Type 0 where
  Open : Answer
  NothingBroken : Answer
  FirstBroken : ℕ → ℕ → Rule → Answer

abbrev pub behind_one : Answer → Answer
behind_one Open = Open
behind_one NothingBroken = NothingBroken
behind_one (FirstBroken g n r) = FirstBroken (suc g) n r

abbrev pub or_behind : AmongSites → Answer → Answer
or_behind SitesOpen x = Open
or_behind SitesSound x = behind_one x
or_behind (SitesBreak n r) x = FirstBroken 0 n r

abbrev pub first_function : (all earlier funcs : List Op) → Answer
first_function all earlier [] = NothingBroken
first_function all earlier (f ∷ fs) = or_behind (in_function (functions all earlier) f) (first_function all (earlier ++ f ∷ []) fs)

abbrev pub answer : PlainModule → Answer
answer m = first_function m.funcs [] m.funcs

-- what an answer says of a module
abbrev pub IsRight : PlainModule → Answer → Type 0
IsRight m Open = ⊤
IsRight m NothingBroken = SoundFrom m.funcs [] m.funcs
IsRight m (FirstBroken g n r) = Broken m g n r
