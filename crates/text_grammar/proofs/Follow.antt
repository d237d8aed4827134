-- Which kinds may follow each part. What is written here is only a guess: the conditions of the grammar check it.
use Rattle.std.specs.Prelude.{Bool, List, [], ◌∷◌}
use Rattle.std.specs.List.{list_any}
use Rattle.text_grammar.specs.declared.kinds.Kind.{Kind}
use Rattle.text_grammar.specs.declared.kinds.Kind.TheVariants as kinds
use Rattle.text_grammar.specs.declared.parts.Part.{Part}
use Rattle.text_grammar.specs.declared.parts.Part.TheVariants as parts
use Rattle.text_grammar.specs.Kinds.{is_kind}

abbrev pub followers : Part → List Kind
followers parts.File = []
followers parts.ResultCount = kinds.Comma ∷ kinds.Equals ∷ []
followers parts.MoreResults = kinds.Text ∷ []
followers parts.OpBody = kinds.Value ∷ kinds.Label ∷ kinds.Text ∷ kinds.HashName ∷ kinds.HashNumber ∷ kinds.TypeName ∷ kinds.CloseBrace ∷ []
followers parts.Uses = kinds.CloseParen ∷ []
followers parts.MoreUses = kinds.CloseParen ∷ []
followers parts.UseIndex = kinds.CloseParen ∷ kinds.Comma ∷ []
followers parts.Successors = kinds.OpenParen ∷ kinds.OpenBrace ∷ kinds.Less ∷ kinds.Colon ∷ []
followers parts.MoreSuccessors = kinds.CloseSquare ∷ []
followers parts.Props = kinds.OpenParen ∷ kinds.OpenBrace ∷ kinds.Colon ∷ []
followers parts.Dict = kinds.Colon ∷ []
followers parts.Regions = kinds.OpenBrace ∷ kinds.Colon ∷ []
followers parts.MoreRegions = kinds.CloseParen ∷ []
followers parts.Region = kinds.CloseParen ∷ kinds.Comma ∷ []
followers parts.Ops = kinds.Label ∷ kinds.CloseBrace ∷ []
followers parts.Blocks = kinds.CloseBrace ∷ []
followers parts.BlockArgs = kinds.Colon ∷ []
followers parts.MoreArgs = kinds.CloseParen ∷ []
followers parts.Entries = kinds.CloseBrace ∷ []
followers parts.MoreEntries = kinds.CloseBrace ∷ []
followers parts.EntryValue = kinds.CloseBrace ∷ kinds.Comma ∷ []
followers parts.Loc = kinds.Value ∷ kinds.Label ∷ kinds.Text ∷ kinds.HashName ∷ kinds.HashNumber ∷ kinds.TypeName ∷ kinds.CloseParen ∷ kinds.CloseBrace ∷ kinds.Comma ∷ []
followers parts.LocBody = kinds.CloseParen ∷ []
followers parts.OneType = kinds.Value ∷ kinds.Text ∷ kinds.HashName ∷ kinds.HashNumber ∷ kinds.TypeName ∷ kinds.WordLoc ∷ kinds.CloseParen ∷ kinds.Comma ∷ []
followers parts.Types = kinds.CloseParen ∷ []
followers parts.MoreTypes = kinds.CloseParen ∷ []
followers parts.Results = kinds.Value ∷ kinds.Label ∷ kinds.Text ∷ kinds.HashName ∷ kinds.HashNumber ∷ kinds.TypeName ∷ kinds.WordLoc ∷ kinds.CloseParen ∷ kinds.CloseSquare ∷ kinds.CloseBrace ∷ kinds.Comma ∷ []
followers parts.AfterResults = kinds.Value ∷ kinds.Label ∷ kinds.Text ∷ kinds.HashName ∷ kinds.HashNumber ∷ kinds.TypeName ∷ kinds.WordLoc ∷ kinds.CloseParen ∷ kinds.CloseSquare ∷ kinds.CloseBrace ∷ kinds.Comma ∷ []
followers parts.InnerType = kinds.OpenParen ∷ kinds.CloseParen ∷ kinds.Greater ∷ kinds.Comma ∷ []
followers parts.InnerTypes = kinds.CloseParen ∷ []
followers parts.MoreInnerTypes = kinds.CloseParen ∷ []
followers parts.InnerResults = kinds.OpenParen ∷ kinds.CloseParen ∷ kinds.Greater ∷ kinds.Comma ∷ []
followers parts.AfterInnerResults = kinds.OpenParen ∷ kinds.CloseParen ∷ kinds.Greater ∷ kinds.Comma ∷ []
followers parts.Dimensions = kinds.TypeName ∷ kinds.TypeDotted ∷ kinds.WordX ∷ kinds.WordLoc ∷ kinds.WordUnknown ∷ kinds.WordBool ∷ kinds.WordWidth ∷ kinds.WordInteger ∷ kinds.WordArray ∷ kinds.WordPlain ∷ kinds.WordStruct ∷ kinds.WordFunction ∷ kinds.Word ∷ []
followers parts.MemrefEnd = kinds.Value ∷ kinds.Label ∷ kinds.Text ∷ kinds.HashName ∷ kinds.HashNumber ∷ kinds.TypeName ∷ kinds.WordLoc ∷ kinds.OpenParen ∷ kinds.CloseParen ∷ kinds.CloseSquare ∷ kinds.CloseBrace ∷ kinds.Greater ∷ kinds.Comma ∷ []
followers parts.IntegerType = kinds.Value ∷ kinds.Text ∷ kinds.HashName ∷ kinds.HashNumber ∷ kinds.TypeName ∷ kinds.CloseSquare ∷ kinds.CloseBrace ∷ kinds.Greater ∷ kinds.Comma ∷ []
followers parts.InnerIntegerType = kinds.Greater ∷ kinds.Comma ∷ []
followers parts.Attr = kinds.CloseSquare ∷ kinds.CloseBrace ∷ kinds.Comma ∷ []
followers parts.Items = kinds.CloseSquare ∷ []
followers parts.MoreItems = kinds.CloseSquare ∷ []
followers parts.AliasValue = kinds.Value ∷ kinds.Text ∷ kinds.HashName ∷ kinds.HashNumber ∷ kinds.TypeName ∷ []
followers parts.NumberType = kinds.Value ∷ kinds.Text ∷ kinds.HashName ∷ kinds.HashNumber ∷ kinds.TypeName ∷ kinds.CloseSquare ∷ kinds.CloseBrace ∷ kinds.Comma ∷ []
followers parts.SymbolEnd = kinds.Value ∷ kinds.Text ∷ kinds.HashName ∷ kinds.HashNumber ∷ kinds.TypeName ∷ kinds.CloseSquare ∷ kinds.CloseBrace ∷ kinds.Comma ∷ []
followers parts.DialectWords = kinds.Value ∷ kinds.Text ∷ kinds.HashName ∷ kinds.HashNumber ∷ kinds.TypeName ∷ kinds.CloseSquare ∷ kinds.CloseBrace ∷ kinds.Comma ∷ []
followers parts.MoreWords = kinds.Greater ∷ []
followers parts.Numbers = kinds.Greater ∷ []
followers parts.MoreNumbers = kinds.Greater ∷ []
followers parts.ListNumber = kinds.Greater ∷ kinds.Comma ∷ []

abbrev pub follow : Part → Kind → Bool
follow part kind = list_any (is_kind kind) (followers part)
