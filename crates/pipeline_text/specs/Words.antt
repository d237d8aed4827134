-- The words and bytes of a pipeline text.
use Rattle.std.specs.Prelude.{ℕ, ◌-◌, ◌+◌, Bool, ◌&&◌, ◌||◌, ◌==◌, nat_le, List, [], ◌∷◌, ◌++◌, length, unwrap_or, find, codes, if◌then◌else◌}
use Rattle.std.specs.Str.{bytes_eq}
use Rattle.pipeline_text.specs.declared.pass.PassName.TheVariants.{ConvertScfToCf, ArithExpand, ConvertArithToLlvm, ConvertCfToLlvm, ConvertFuncToLlvm, FinalizeMemrefToLlvm, ReconcileUnrealizedCasts, FullConvertToLlvm}
use Rattle.pipeline_text.specs.declared.pass.Anchor.TheVariants.{FuncFunc, LlvmFunc}
use Rattle.pipeline_text.specs.declared.token.Token.{Token}
use Rattle.pipeline_text.specs.declared.token.Kind.{Kind}
use Rattle.pipeline_text.specs.declared.token.Kind.TheVariants.{Module, OnEach, Pass, Width, Zero, SixtyFour, OtherWord, Open, Close, OpenBrace, CloseBrace, Equals, Comma, OtherByte}
use Rattle.pipeline_text.specs.Passes.{pass_text}

-- how the kinds that are one word are written
abbrev pub kind_text : Kind → List ℕ
kind_text Module = codes "builtin.module"
kind_text (OnEach FuncFunc) = codes "func.func"
kind_text (OnEach LlvmFunc) = codes "llvm.func"
kind_text (Pass p) = pass_text p
kind_text Width = codes "index-bitwidth"
kind_text Zero = codes "0"
kind_text SixtyFour = codes "64"
kind_text k = []

-- the kinds that are one word
abbrev pub words : List Kind
words = Module ∷ OnEach FuncFunc ∷ OnEach LlvmFunc ∷ Pass ConvertScfToCf ∷ Pass ArithExpand ∷ Pass ConvertArithToLlvm ∷ Pass ConvertCfToLlvm ∷ Pass ConvertFuncToLlvm
    ∷ Pass FinalizeMemrefToLlvm ∷ Pass ReconcileUnrealizedCasts ∷ Pass FullConvertToLlvm ∷ Width ∷ Zero ∷ SixtyFour ∷ []

unfoldable pub word_kind : List ℕ → Kind
word_kind word = unwrap_or (find (λ k. bytes_eq (kind_text k) word) words) OtherWord

abbrev pub byte_kind : ℕ → Kind
byte_kind b =
    if b == 40 then Open  -- (
    else (if b == 41 then Close  -- )
    else (if b == 123 then OpenBrace  -- {
    else (if b == 125 then CloseBrace  -- }
    else (if b == 61 then Equals  -- =
    else (if b == 44 then Comma  -- ,
    else OtherByte)))))

-- from low to high
abbrev pub between : ℕ → ℕ → ℕ → Bool
between low high b = nat_le low b && nat_le b high

-- letters, digits, '_', '-' and '.'
abbrev pub in_word : ℕ → Bool
in_word b = between 97 122 b || between 65 90 b || between 48 57 b || b == 95 || b == 45 || b == 46

-- space and tab
abbrev pub is_blank : ℕ → Bool
is_blank b = b == 32 || b == 9

-- the word that ends at a place
abbrev pub closed : List ℕ → ℕ → List Token
closed [] at = []
closed (b ∷ bs) at = record { kind = word_kind (b ∷ bs); start = at - length (b ∷ bs) } ∷ []

-- what a byte that is in no word is by itself
abbrev pub alone : ℕ → ℕ → List Token
alone at b = if is_blank b then [] else record { kind = byte_kind b; start = at } ∷ []

-- the tokens of a text whose first byte is at a place, behind a word that is still open
abbrev pub cut : List ℕ → ℕ → List ℕ → List Token
cut word at [] = closed word at
cut word at (b ∷ bs) =
    if in_word b
    then cut (word ++ b ∷ []) (at + 1) bs
    else closed word at ++ alone at b ++ cut [] (at + 1) bs

-- the tokens of a text: each longest run of bytes of words, and each other byte that is no blank
unfoldable pub tokens_of : List ℕ → List Token
tokens_of text = cut [] 0 text
