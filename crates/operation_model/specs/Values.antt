-- Values, and what it is to look at them.
use Rattle.std.specs.Prelude.{ℕ, zero, suc, ◌+◌, List, [], ◌∷◌, ◌++◌, map, take, drop}
use Rattle.std.specs.List.{slice_get}
use Rattle.number_model.specs.Answers.{Answer, Gives, Undefined, Outside, and_then, with_answer, present}

-- A value: an integer, which stands for all that are equal to it modulo 2^w wherever it is used as one of w bits; a pointer, by the
-- number of a buffer and a byte offset in it; what was never set; or a struct or array of values.
mutual
  pub data Value : Type 0 where
    Integer : ℕ → Value
    Pointer : ℕ → ℕ → Value
    Unset : Value
    Aggregate : Parts → Value

  pub data Parts : Type 0 where
    NoPart : Parts
    Part : Value → Parts → Parts

-- the values of a struct or array, in order
abbrev pub values_of : Parts → List Value
values_of NoPart = []
values_of (Part v ps) = v ∷ values_of ps

abbrev pub parts_of : List Value → Parts
parts_of [] = NoPart
parts_of (v ∷ vs) = Part v (parts_of vs)

-- a struct or array of these values
abbrev pub together : List Value → Value
together vs = Aggregate (parts_of vs)

-- the integer that is looked at: one that was never set is undefined
abbrev pub number : Value → Answer ℕ
number (Integer n) = Gives n
number Unset = Undefined
number _ = Outside

-- the integers of all values
abbrev pub numbers : List Value → Answer (List ℕ)
numbers [] = Gives []
numbers (v ∷ vs) = and_then (number v) (λ n. with_answer (λ ns. n ∷ ns) (numbers vs))

-- a place in memory: a buffer and a byte offset in it
pub record Place : Type 0 where
  pub buffer : ℕ
  pub offset : ℕ

-- the place of a pointer that is looked at
abbrev pub place_of : Value → Answer Place
place_of (Pointer buffer offset) = Gives (record { buffer = buffer; offset = offset })
place_of Unset = Undefined
place_of _ = Outside

-- the parts of a struct or array
abbrev pub inside : Value → Answer (List Value)
inside (Aggregate ps) = Gives (values_of ps)
inside _ = Outside

-- the part at a path of fields and places
abbrev pub part_at : List ℕ → Value → Answer Value
part_at [] v = Gives v
part_at (i ∷ path) v = and_then (inside v) (λ vs. and_then (present (slice_get vs i)) (part_at path))

-- the parts at several paths
abbrev pub parts_at : List (List ℕ) → Value → Answer (List Value)
parts_at [] v = Gives []
parts_at (path ∷ paths) v = and_then (part_at path v) (λ part. with_answer (λ parts. part ∷ parts) (parts_at paths v))

-- the list with another element at a place
abbrev pub replaced : List Value → ℕ → Value → List Value
replaced vs i v = take i vs ++ v ∷ drop (i + 1) vs

-- a struct or array with another part at a path
abbrev pub with_part : List ℕ → Value → Value → Answer Value
with_part [] part v = Gives part
with_part (i ∷ path) part v =
    and_then (inside v) (λ vs. and_then (present (slice_get vs i)) (λ old. with_answer (λ new. together (replaced vs i new)) (with_part path part old)))

-- the numbers from i on, so many
abbrev pub counted : ℕ → ℕ → List ℕ
counted i zero = []
counted i (suc n) = i ∷ counted (i + 1) n

-- A memref is its descriptor: the pointer that was allocated, the pointer that is aligned, an offset, and where it has dimensions the
-- array of its sizes and that of its strides.
abbrev pub allocated_path : List ℕ
allocated_path = 0 ∷ []

abbrev pub aligned_path : List ℕ
aligned_path = 1 ∷ []

abbrev pub offset_path : List ℕ
offset_path = 2 ∷ []

abbrev pub size_path : ℕ → List ℕ
size_path i = 3 ∷ i ∷ []

abbrev pub stride_path : ℕ → List ℕ
stride_path i = 4 ∷ i ∷ []

-- the paths of the fields of a descriptor, one after another
abbrev pub field_paths : ℕ → List (List ℕ)
field_paths rank = allocated_path ∷ aligned_path ∷ offset_path ∷ map size_path (counted 0 rank) ++ map stride_path (counted 0 rank)

-- the sizes and strides of a descriptor where it has dimensions
abbrev pub in_arrays : ℕ → List Value → List Value → List Value
in_arrays zero sizes strides = []
in_arrays (suc rank) sizes strides = together sizes ∷ together strides ∷ []

-- the descriptor of these fields
abbrev pub descriptor : ℕ → Value → Value → Value → List Value → List Value → Value
descriptor rank allocated aligned offset sizes strides = together (allocated ∷ aligned ∷ offset ∷ in_arrays rank sizes strides)
