-- Texts in the order of the grammar, where also the names of results and the operands of an operation are told from other words: a finer form than that of `text_forms`.
use Rattle.std.specs.Prelude.{◌≡◌, Bool, true, false}
use Rattle.text_grammar.specs.declared.places.Place.{Place}
use Rattle.text_grammar.specs.declared.places.Place.TheVariants as places
use Rattle.text_forms.specs.Forms.{is_alias, is_still}

-- words that say nothing of the form of operations, and name no value
abbrev pub is_mute : Place → Bool
is_mute places.UseName = false
is_mute places.ResultColon = false
is_mute places.ResultNumber = false
is_mute places.OperandsOpen = false
is_mute p = is_still p

-- such words alone
pub data Mute {X : Type 0} (T : Place → X → X → Type 0) : X → X → Type 0 where
  mute_end : (x : X) → Mute T x x
  mute_more : (p : Place) {x y z : X} → is_mute p ≡ true → T p x y → Mute T y z → Mute T x z

-- a location, or none
pub data Loc {X : Type 0} (T : Place → X → X → Type 0) : X → X → Type 0 where
  no_loc : (x : X) → Loc T x x
  loc : {x a b y : X} → T places.LocWord x a → Mute T a b → T places.LocClose b y → Loc T x y

-- of how many results a name is, or nothing
pub data Counting {X : Type 0} (T : Place → X → X → Type 0) : X → X → Type 0 where
  one : (x : X) → Counting T x x
  many : {x a y : X} → T places.ResultColon x a → T places.ResultNumber a y → Counting T x y

-- what stands behind the name of a result: the next one, or the end of all
pub data Names {X : Type 0} (T : Place → X → X → Type 0) : X → X → Type 0 where
  no_names : (x : X) → Names T x x
  last_name : {x a b y : X} → T places.ResultName x a → Counting T a b → T places.ResultsEquals b y → Names T x y
  next_name : {x a b c y : X} → T places.ResultName x a → Counting T a b → T places.ResultComma b c → Names T c y → Names T x y

-- operands
pub data Uses {X : Type 0} (T : Place → X → X → Type 0) : X → X → Type 0 where
  no_uses : (x : X) → Uses T x x
  a_use : {x a b y : X} → T places.UseName x a → Mute T a b → Uses T b y → Uses T x y

-- the arguments of a block
pub data Args {X : Type 0} (T : Place → X → X → Type 0) : X → X → Type 0 where
  no_args : {x y : X} → Mute T x y → Args T x y
  arg : {x a b c d e y : X} → Mute T x a → T places.ArgName a b → T places.ArgColon b c → Mute T c d → Loc T d e → Args T e y → Args T x y

mutual
  -- an operation behind its name
  pub data Body {X : Type 0} (T : Place → X → X → Type 0) : X → X → Type 0 where
    body : {x o u a b c d e f g h y : X} → T places.OperandsOpen x o → Uses T o u → Mute T u a → Regions T a b → Mute T b c → T places.SignatureColon c d → T places.SignatureOpen d e → Mute T e f → T places.SignatureArrow f g → Mute T g h → Loc T h y
        → Body T x y

  pub data Ops {X : Type 0} (T : Place → X → X → Type 0) : X → X → Type 0 where
    no_ops : (x : X) → Ops T x x
    op : {x a b c y : X} → Names T x a → T places.OpName a b → Body T b c → Ops T c y → Ops T x y

  pub data Regions {X : Type 0} (T : Place → X → X → Type 0) : X → X → Type 0 where
    no_regions : {x y : X} → Mute T x y → Regions T x y
    region : {x a b c d e y : X} → Mute T x a → T places.RegionOpen a b → Ops T b c → Blocks T c d → T places.RegionClose d e → Regions T e y → Regions T x y

  pub data Blocks {X : Type 0} (T : Place → X → X → Type 0) : X → X → Type 0 where
    no_blocks : (x : X) → Blocks T x x
    block : {x a b c d y : X} → T places.BlockLabel x a → Args T a b → T places.BlockColon b c → Ops T c d → Blocks T d y → Blocks T x y

-- a file: operations and aliases
pub data File {X : Type 0} (T : Place → X → X → Type 0) : X → X → Type 0 where
  no_file : (x : X) → File T x x
  file_op : {x a b c y : X} → Names T x a → T places.OpName a b → Body T b c → File T c y → File T x y
  file_alias : (p : Place) {x a b c y : X} → is_alias p ≡ true → T p x a → Mute T a b → Loc T b c → File T c y → File T x y
