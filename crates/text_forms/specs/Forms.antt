-- Texts in the order of the grammar: what lies between two states where an operation, a block or a region stands between them. A state goes over to another by a word at a place.
use Rattle.std.specs.Prelude.{◌≡◌, Bool, true, false, List, [], ◌∷◌}
use Rattle.text_grammar.specs.declared.places.Place.{Place}
use Rattle.text_grammar.specs.declared.places.Place.TheVariants as places

-- words that say nothing of the form of operations
abbrev pub is_still : Place → Bool
is_still places.OpName = false
is_still places.ResultName = false
is_still places.SignatureColon = false
is_still places.SignatureOpen = false
is_still places.SignatureArrow = false
is_still places.RegionOpen = false
is_still places.RegionClose = false
is_still places.BlockLabel = false
is_still places.BlockColon = false
is_still places.ArgName = false
is_still places.LocWord = false
is_still places.LocClose = false
is_still places.TypeAliasName = false
is_still places.AttrAliasName = false
is_still _ = true

-- such words alone
pub data Still {X : Type 0} (T : Place → X → X → Type 0) : X → X → Type 0 where
  still_end : (x : X) → Still T x x
  still_more : (p : Place) {x y z : X} → is_still p ≡ true → T p x y → Still T y z → Still T x z

-- a location, or none
pub data IsLoc {X : Type 0} (T : Place → X → X → Type 0) : X → X → Type 0 where
  no_loc : (x : X) → IsLoc T x x
  loc : {x a b y : X} → T places.LocWord x a → Still T a b → T places.LocClose b y → IsLoc T x y

-- the names of results in front of an operation, or none
pub data IsNames {X : Type 0} (T : Place → X → X → Type 0) : X → X → Type 0 where
  no_names : (x : X) → IsNames T x x
  name : {x a b y : X} → T places.ResultName x a → Still T a b → IsNames T b y → IsNames T x y

-- the arguments of a block
pub data IsArgs {X : Type 0} (T : Place → X → X → Type 0) : X → X → Type 0 where
  no_args : {x y : X} → Still T x y → IsArgs T x y
  arg : {x a b c d y : X} → Still T x a → T places.ArgName a b → Still T b c → IsLoc T c d → IsArgs T d y → IsArgs T x y

mutual
  -- from the operands of an operation to the end
  pub data IsBody {X : Type 0} (T : Place → X → X → Type 0) : X → X → Type 0 where
    body : {x a b c d e f g h y : X} → Still T x a → IsRegions T a b → Still T b c → T places.SignatureColon c d → T places.SignatureOpen d e → Still T e f → T places.SignatureArrow f g → Still T g h → IsLoc T h y
        → IsBody T x y

  pub data IsOps {X : Type 0} (T : Place → X → X → Type 0) : X → X → Type 0 where
    no_ops : (x : X) → IsOps T x x
    op : {x a b c y : X} → IsNames T x a → T places.OpName a b → IsBody T b c → IsOps T c y → IsOps T x y

  pub data IsRegions {X : Type 0} (T : Place → X → X → Type 0) : X → X → Type 0 where
    no_regions : {x y : X} → Still T x y → IsRegions T x y
    region : {x a b c d e y : X} → Still T x a → T places.RegionOpen a b → IsOps T b c → IsBlocks T c d → T places.RegionClose d e → IsRegions T e y → IsRegions T x y

  pub data IsBlocks {X : Type 0} (T : Place → X → X → Type 0) : X → X → Type 0 where
    no_blocks : (x : X) → IsBlocks T x x
    block : {x a b c d y : X} → T places.BlockLabel x a → IsArgs T a b → T places.BlockColon b c → IsOps T c d → IsBlocks T d y → IsBlocks T x y

-- where the name of an alias stands
abbrev pub is_alias : Place → Bool
is_alias places.TypeAliasName = true
is_alias places.AttrAliasName = true
is_alias _ = false

-- a file: operations and aliases
pub data IsFile {X : Type 0} (T : Place → X → X → Type 0) : X → X → Type 0 where
  no_file : (x : X) → IsFile T x x
  file_op : {x a b c y : X} → IsNames T x a → T places.OpName a b → IsBody T b c → IsFile T c y → IsFile T x y
  file_alias : (p : Place) {x a b c y : X} → is_alias p ≡ true → T p x a → Still T a b → IsLoc T b c → IsFile T c y → IsFile T x y

-- words one by one
pub data Run {X : Type 0} (T : Place → X → X → Type 0) : List Place → X → X → Type 0 where
  run_end : (x : X) → Run T [] x x
  run_more : (p : Place) {ps : List Place} {x y z : X} → T p x y → Run T ps y z → Run T (p ∷ ps) x z
