-- The grammar of pipeline texts, over tokens.
use Rattle.std.specs.Prelude.{ℕ, List, Option, unwrap_or}
use Rattle.grammar_model.specs.Syntax.{Syntax, token, ◌then◌, mapped, ◌▸◌, ◌◂◌, maybe, ◌or◌, listed}
use Rattle.pipeline_text.specs.declared.pass.PassName.{PassName}
use Rattle.pipeline_text.specs.declared.pass.PassName.TheVariants.{ConvertScfToCf}
use Rattle.pipeline_text.specs.declared.pass.Anchor.{Anchor}
use Rattle.pipeline_text.specs.declared.pass.Anchor.TheVariants.{FuncFunc}
use Rattle.pipeline_text.specs.declared.pass.PassUse.{PassUse}
use Rattle.pipeline_text.specs.declared.pass.Stage.{Stage}
use Rattle.pipeline_text.specs.declared.pass.Stage.TheVariants.{Whole, Each}
use Rattle.pipeline_text.specs.declared.token.Token.{Token}
use Rattle.pipeline_text.specs.declared.token.Level.{Level}
use Rattle.pipeline_text.specs.declared.token.Level.TheVariants.{Nested}
use Rattle.pipeline_text.specs.declared.token.Level.TheVariants as level
use Rattle.pipeline_text.specs.declared.token.Kind.{Kind}
use Rattle.pipeline_text.specs.declared.token.Kind.TheVariants as kinds
use Rattle.pipeline_text.specs.declared.token.Wanted.{Wanted}
use Rattle.pipeline_text.specs.declared.token.Wanted.TheVariants as wanted
use Rattle.pipeline_text.specs.Kinds.{kind_of, fits}

abbrev pub pass_or_first : Kind → PassName
pass_or_first (kinds.Pass p) = p
pass_or_first k = ConvertScfToCf

abbrev pub anchor_or_first : Kind → Anchor
anchor_or_first (kinds.OnEach a) = a
anchor_or_first k = FuncFunc

-- what a word says, where it is one of those that are asked for
abbrev pub pass_of : Token → PassName
pass_of t = pass_or_first t.kind

abbrev pub anchor_of : Token → Anchor
anchor_of t = anchor_or_first t.kind

-- how wide each value makes `index`
abbrev pub value_bits : Kind → ℕ
value_bits kinds.Zero = 64
value_bits kinds.SixtyFour = 64
value_bits k = 64

abbrev pub bits_of : Token → ℕ
bits_of t = value_bits t.kind

-- without the option `index` has 64 bits
abbrev pub use_of : PassName × Option ℕ → PassUse
use_of x = record { pass = x.0; bits = unwrap_or x.1 64 }

abbrev pub each_of : Anchor × List PassUse → Stage
each_of x = Each x.0 x.1

abbrev pub whole_of : PassUse → Stage
whole_of u = Whole u

-- a word of a kind, and what it says
unfoldable pub pass_word : Wanted → Syntax kind_of PassName
pass_word wanted = mapped pass_of (token (fits wanted))

unfoldable pub anchor_word : Syntax kind_of Anchor
anchor_word = mapped anchor_of (token (fits wanted.OnEach))

unfoldable pub value_word : Syntax kind_of ℕ
value_word = mapped bits_of (token (fits wanted.Value))

-- '{' name '=' value '}', where the name is the pass's option
unfoldable pub option_part : Wanted → Syntax kind_of ℕ
option_part name = fits wanted.OpenBrace ▸ fits name ▸ fits wanted.Equals ▸ value_word ◂ fits wanted.CloseBrace

-- a pass that may stand there, and its option or none: each option has a value, and stands once
unfoldable pub wide_part : Level → Syntax kind_of PassUse
wide_part level = mapped use_of (pass_word (wanted.WidePass level) then maybe (option_part wanted.Width))

-- a pass that has no option: behind a brace a name is wanted that no text has, so each name there is refused
unfoldable pub plain_part : Level → Syntax kind_of PassUse
plain_part level = mapped use_of (pass_word (wanted.PlainPass level) then maybe (option_part wanted.NoOption))

-- pass ['{' 'index-bitwidth' '=' value '}']
unfoldable pub pass_part : Level → Syntax kind_of PassUse
pass_part level = wide_part level or plain_part level

-- 'func.func' or 'llvm.func', '(' passes ')'
unfoldable pub nested_part : Syntax kind_of Stage
nested_part = mapped each_of (anchor_word then fits wanted.Open ▸ listed (fits wanted.Comma) (pass_part Nested) ◂ fits wanted.Close)

-- a pass that stands for itself
unfoldable pub whole_part : Syntax kind_of Stage
whole_part = mapped whole_of (pass_part level.Module)

-- a pass or a nested list
unfoldable pub item_part : Syntax kind_of Stage
item_part = whole_part or nested_part

-- 'builtin.module' '(' items ')'
unfoldable pub pipeline : Syntax kind_of (List Stage)
pipeline = fits wanted.Module ▸ fits wanted.Open ▸ listed (fits wanted.Comma) item_part ◂ fits wanted.Close
