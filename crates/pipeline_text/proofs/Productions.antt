-- The grammar keeps the laws.
use Rattle.std.proofs.Common.{◌≡◌, Bool, true, List, [], ◌∷◌, refl}
use Rattle.grammar_model.specs.Sets.{none_both, Apart, HasEvery}
use Rattle.grammar_model.specs.Reads.{IsSyntax}
use Rattle.grammar_model.proofs.Sets.{apart_by}
use Rattle.grammar_model.proofs.Laws.{token_laws, then_laws, mapped_laws, maybe_laws, or_laws}
use Rattle.grammar_model.proofs.Many.{before_laws, behind_laws, listed_laws}
use Rattle.pipeline_text.specs.declared.pass.PassName.TheVariants.{ConvertScfToCf, ArithExpand, ConvertArithToLlvm, ConvertCfToLlvm, ConvertFuncToLlvm, FinalizeMemrefToLlvm, ReconcileUnrealizedCasts, FullConvertToLlvm}
use Rattle.pipeline_text.specs.declared.pass.Anchor.TheVariants.{FuncFunc, LlvmFunc}
use Rattle.pipeline_text.specs.declared.token.Token.{Token}
use Rattle.pipeline_text.specs.declared.token.Level.{Level}
use Rattle.pipeline_text.specs.declared.token.Level.TheVariants as level
use Rattle.pipeline_text.specs.declared.token.Kind.{Kind}
use Rattle.pipeline_text.specs.declared.token.Kind.TheVariants.{Module, OnEach, Pass, Width, Zero, SixtyFour, OtherWord, Open, Close, OpenBrace, CloseBrace, Equals, Comma, OtherByte, NoOption}
use Rattle.pipeline_text.specs.declared.token.Wanted.{Wanted}
use Rattle.pipeline_text.specs.declared.token.Wanted.TheVariants as wanted
use Rattle.pipeline_text.specs.Kinds.{fits}
use Rattle.pipeline_text.specs.Grammar.{whole_of, each_of, use_of, pass_of, bits_of, anchor_of, pass_word, anchor_word, value_word, option_part, wide_part, plain_part, pass_part, nested_part, whole_part, item_part, pipeline}

-- Every kind, and its place in the list

every : List Kind
every = Module ∷ OnEach FuncFunc ∷ OnEach LlvmFunc ∷ Pass ConvertScfToCf ∷ Pass ArithExpand ∷ Pass ConvertArithToLlvm ∷ Pass ConvertCfToLlvm ∷ Pass ConvertFuncToLlvm
    ∷ Pass FinalizeMemrefToLlvm ∷ Pass ReconcileUnrealizedCasts ∷ Pass FullConvertToLlvm ∷ Width ∷ Zero ∷ SixtyFour ∷ OtherWord ∷ Open ∷ Close ∷ OpenBrace ∷ CloseBrace
    ∷ Equals ∷ Comma ∷ OtherByte ∷ NoOption ∷ []

has_every : HasEvery every
unfolding every
has_every Module = (0, refl)
has_every (OnEach FuncFunc) = (1, refl)
has_every (OnEach LlvmFunc) = (2, refl)
has_every (Pass ConvertScfToCf) = (3, refl)
has_every (Pass ArithExpand) = (4, refl)
has_every (Pass ConvertArithToLlvm) = (5, refl)
has_every (Pass ConvertCfToLlvm) = (6, refl)
has_every (Pass ConvertFuncToLlvm) = (7, refl)
has_every (Pass FinalizeMemrefToLlvm) = (8, refl)
has_every (Pass ReconcileUnrealizedCasts) = (9, refl)
has_every (Pass FullConvertToLlvm) = (10, refl)
has_every Width = (11, refl)
has_every Zero = (12, refl)
has_every SixtyFour = (13, refl)
has_every OtherWord = (14, refl)
has_every Open = (15, refl)
has_every Close = (16, refl)
has_every OpenBrace = (17, refl)
has_every CloseBrace = (18, refl)
has_every Equals = (19, refl)
has_every Comma = (20, refl)
has_every OtherByte = (21, refl)
has_every NoOption = (22, refl)

apart : (p q : Kind → Bool) → none_both p q every ≡ true → Apart p q
apart p q none = apart_by every has_every p q none

-- some token of a kind
a : Kind → Token
a k = record { kind = k; start = 0 }

-- The laws, a production at a time

pass_word_laws : (w : Wanted) (k : Kind) → fits w k ≡ true → IsSyntax (pass_word w)
unfolding pass_word a
pass_word_laws w k fit = mapped_laws pass_of (token_laws (fits w) (a k) fit)

value_laws : IsSyntax value_word
unfolding value_word a
value_laws = mapped_laws bits_of (token_laws (fits wanted.Value) (a Zero) refl)

width_laws : IsSyntax (option_part wanted.Width)
unfolding option_part value_word a every
width_laws = before_laws (fits wanted.OpenBrace) (a OpenBrace) refl (before_laws (fits wanted.Width) (a Width) refl (before_laws (fits wanted.Equals) (a Equals) refl
    (behind_laws (fits wanted.CloseBrace) (a CloseBrace) refl value_laws (apart _ _ refl))))

no_option_laws : IsSyntax (option_part wanted.NoOption)
unfolding option_part value_word a every
no_option_laws = before_laws (fits wanted.OpenBrace) (a OpenBrace) refl (before_laws (fits wanted.NoOption) (a NoOption) refl (before_laws (fits wanted.Equals) (a Equals) refl
    (behind_laws (fits wanted.CloseBrace) (a CloseBrace) refl value_laws (apart _ _ refl))))

wide_laws : (l : Level) → IsSyntax (wide_part l)
unfolding wide_part pass_word option_part value_word every
wide_laws level.Module = mapped_laws use_of (then_laws (pass_word_laws (wanted.WidePass level.Module) (Pass ConvertArithToLlvm) refl) (maybe_laws width_laws refl) (apart _ _ refl))
wide_laws level.Nested = mapped_laws use_of (then_laws (pass_word_laws (wanted.WidePass level.Nested) (Pass ConvertArithToLlvm) refl) (maybe_laws width_laws refl) (apart _ _ refl))

plain_laws : (l : Level) → IsSyntax (plain_part l)
unfolding plain_part pass_word option_part value_word every
plain_laws level.Module = mapped_laws use_of (then_laws (pass_word_laws (wanted.PlainPass level.Module) (Pass ArithExpand) refl) (maybe_laws no_option_laws refl) (apart _ _ refl))
plain_laws level.Nested = mapped_laws use_of (then_laws (pass_word_laws (wanted.PlainPass level.Nested) (Pass ArithExpand) refl) (maybe_laws no_option_laws refl) (apart _ _ refl))

pass_laws : (l : Level) → IsSyntax (pass_part l)
unfolding pass_part wide_part plain_part pass_word option_part value_word every
pass_laws level.Module = or_laws (wide_laws level.Module) (plain_laws level.Module) refl refl (apart _ _ refl)
pass_laws level.Nested = or_laws (wide_laws level.Nested) (plain_laws level.Nested) refl refl (apart _ _ refl)

nested_laws : IsSyntax nested_part
unfolding nested_part anchor_word pass_part wide_part plain_part pass_word option_part value_word a every
nested_laws = mapped_laws each_of (then_laws (mapped_laws anchor_of (token_laws (fits wanted.OnEach) (a (OnEach FuncFunc)) refl)) (before_laws (fits wanted.Open) (a Open) refl
    (behind_laws (fits wanted.Close) (a Close) refl (listed_laws (fits wanted.Comma) (a Comma) refl (pass_laws level.Nested) refl (apart _ _ refl)) (apart _ _ refl))) (apart _ _ refl))

item_laws : IsSyntax item_part
unfolding item_part whole_part nested_part anchor_word pass_part wide_part plain_part pass_word option_part value_word every
item_laws = or_laws (mapped_laws whole_of (pass_laws level.Module)) nested_laws refl refl (apart _ _ refl)

pub pipeline_laws : IsSyntax pipeline
unfolding pipeline item_part whole_part nested_part anchor_word pass_part wide_part plain_part pass_word option_part value_word a every
pipeline_laws = before_laws (fits wanted.Module) (a Module) refl (before_laws (fits wanted.Open) (a Open) refl
    (behind_laws (fits wanted.Close) (a Close) refl (listed_laws (fits wanted.Comma) (a Comma) refl item_laws refl (apart _ _ refl)) (apart _ _ refl)))
