-- Which key a handle stands for, in any table of entries.
use Rattle.std.specs.Prelude.{◌≡◌, ℕ, zero, suc, List, Option, Some, None, slice_get}
use Rattle.std.specs.List.{AllZip}

module _ {H E K D : Type 0} (head : E → D) (children : E → List H) (head_of : K → D) (parts_of : K → List K) (Home : H → K → Type 0) where
  -- one level: the key is at home where the handle is, the handle's entry has the key's head, and R
  -- ties its children to the key's parts
  pub record IsLevel (table : H → Option E) (R : H → K → Type 0) (h : H) (k : K) : Type 0 where
    pub home : Home h k
    pub entry : E
    pub is : table h ≡ Some entry
    pub same_head : head entry ≡ head_of k
    pub rest : AllZip R (children entry) (parts_of k)

  -- the handle stands for the key, which has at most so many levels
  abbrev pub IsWithinLevels : (H → Option E) → ℕ → H → K → Type 0
  IsWithinLevels table zero h k = ⊥
  IsWithinLevels table (suc n) h k = IsLevel table (IsWithinLevels table n) h k

  -- the handle stands for the key
  pub record StandsFor (table : H → Option E) (h : H) (k : K) : Type 0 where
    pub levels : ℕ
    pub stands : IsWithinLevels table levels h k

-- the second table has the entries of the first one, each at its handle
abbrev pub Grows : {H E : Type 0} → (H → Option E) → (H → Option E) → Type 0
Grows {H} {E} table table' = (h : H) (e : E) → table h ≡ Some e → table' h ≡ Some e

-- the children of each entry have entries
abbrev pub AreClosed : {H E : Type 0} → (E → List H) → (H → Option E) → Type 0
AreClosed {H} {E} children table = (h : H) (e : E) (i : ℕ) (c : H) → table h ≡ Some e → slice_get (children e) i ≡ Some c → table c ≡ None → ⊥
