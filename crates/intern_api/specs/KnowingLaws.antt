-- A handle has one key, and a key one handle, of however many levels.
use Rattle.std.specs.Prelude.{◌≡◌}
use Rattle.std.proofs.Math.Logic.{∥∥₁_elim}
use base.Stored.{Coded-set}
use Rattle.key_model.specs.contracts.key.Key as of_key
use Rattle.key_model.specs.contracts.handle.Handle as of_handle
use Rattle.key_model.specs.declared.handle.Handle.{Handle}
use Rattle.key_model.specs.declared.key.Key.{Key}
use Rattle.intern_api.specs.declared.tables.Tables.{Tables}
use Rattle.intern_api.specs.KnownLaws.{one_handle, one_key}
use Rattle.intern_api.specs.Knowing.{Knows}

pub key_set : (k l : Key) → IsProp (k ≡ l)
key_set = Coded-set of_key.the_row.coded

handle_set : (h g : Handle) → IsProp (h ≡ g)
handle_set = Coded-set of_handle.the_row.coded

pub one_handle_known : (p : Tables) (h g : Handle) (k : Key) → Knows p h k → Knows p g k → h ≡ g
one_handle_known p h g k a b = ∥∥₁_elim a (handle_set h g) (λ x. ∥∥₁_elim b (handle_set h g) (λ y. one_handle p.shards p.list.items h g k x y))

pub one_key_known : (p : Tables) (h : Handle) (k l : Key) → Knows p h k → Knows p h l → k ≡ l
one_key_known p h k l a b = ∥∥₁_elim a (key_set k l) (λ x. ∥∥₁_elim b (key_set k l) (λ y. one_key p.shards p.list.items h k l x y))
