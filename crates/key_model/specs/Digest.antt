-- A number that equal entries share, from which the place of an entry is sought.
use Rattle.std.specs.Prelude.{ℕ, ◌+◌, ◌*◌, ◌%◌, ◌^◌, List, ℤ, fold}
use Rattle.std.specs.Int.{cast_unsigned}
use mir.Syntax.{w64}
use Rattle.tree_model.specs.declared.type_tree.Dim.{Dim}
use Rattle.tree_model.specs.declared.type_tree.Dim.TheVariants.{Fixed, Dynamic}
use Rattle.key_model.specs.declared.handle.Handle.{Handle}
use Rattle.key_model.specs.declared.entry.Entry.{Entry}
use Rattle.key_model.specs.declared.entry.Head.{Head}
use Rattle.key_model.specs.declared.entry.Head.TheVariants.{TInt, TIndex, TMemref, TFunc, TPtr, TVoid, TStruct, TArray, TLlvmFunc, Unit, Int, Str, List as ListHead, Dict, OfType, Symbol, Ints, Dialect}

-- a digest with one more number in it
unfoldable pub mixed : ℕ → ℕ → ℕ
mixed sum number = (sum * 11400714819323198485 % 2 ^ 64 + number) % 2 ^ 64

-- with numbers in it
abbrev pub mixed_all : ℕ → List ℕ → ℕ
mixed_all sum numbers = fold mixed sum numbers

-- with a dimension in it
abbrev pub mixed_dim : ℕ → Dim → ℕ
mixed_dim sum (Fixed n) = mixed (mixed sum 1) n
mixed_dim sum Dynamic = mixed sum 2

-- with a signed number in it
abbrev pub mixed_signed : ℕ → ℤ → ℕ
mixed_signed sum number = mixed sum (cast_unsigned w64 number)

-- with a name in it
abbrev pub mixed_name : ℕ → List ℕ → ℕ
mixed_name sum name = mixed_all (mixed sum 256) name

-- with a handle in it
abbrev pub mixed_handle : ℕ → Handle → ℕ
mixed_handle sum h = mixed sum (h.shard * 2 ^ 32 + h.place)

-- the digest of a head
abbrev pub head_digest : Head → ℕ
head_digest (TInt width) = mixed 1 width
head_digest TIndex = 2
head_digest (TMemref dims) = fold mixed_dim 3 dims
head_digest (TFunc inputs) = mixed 4 inputs
head_digest TPtr = 5
head_digest TVoid = 6
head_digest TStruct = 7
head_digest (TArray n) = mixed 8 n
head_digest TLlvmFunc = 9
head_digest Unit = 10
head_digest (Int value) = mixed_signed 11 value
head_digest (Str text) = mixed_all 12 text
head_digest ListHead = 13
head_digest (Dict names) = fold mixed_name 14 names
head_digest OfType = 15
head_digest (Symbol name) = mixed_all 16 name
head_digest (Ints width numbers) = fold mixed_signed (mixed 17 width) numbers
head_digest (Dialect name words) = fold mixed_name (mixed_name 18 name) words

-- the digest of an entry
abbrev pub entry_digest : Entry → ℕ
entry_digest e = fold mixed_handle (head_digest e.head) e.children
