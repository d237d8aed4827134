use Rattle.std.proofs.Common.{◌+◌, ◌*◌, length}
use Rattle.compute_code.proofs.inserts.+with_part.Given as goal

abbrev pub decreases-with_part : goal.decreases-with_part
decreases-with_part l = 2 * length l.path.now

abbrev pub decreases-put_inside : goal.decreases-put_inside
decreases-put_inside l = 2 * length l.rest.now + 1
