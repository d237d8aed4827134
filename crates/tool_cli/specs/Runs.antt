-- What a run leaves in the source and the sinks.
use Rattle.std.specs.Prelude.{◌≡◌, ◌⊎◌, ℕ, List, ◌++◌, ⊤, Option, Some, None}
use Rattle.std.specs.Io.KnownBytes.{Keeps, Appends}
use Rattle.edge_kit.specs.Edges.{Rose}
use Rattle.tool_cli.specs.declared.status.Status.{Status}
use Rattle.tool_cli.specs.declared.status.Status.TheVariants.{Ok, Usage, Refused, PassFailed, ReadFault, WriteFault, NoMemory, Limit}
use Rattle.tool_cli.specs.Told.{Reply}
use Rattle.tool_cli.specs.Replies.{Out}

-- the status is that of a reply, and tells of no fault and no want of memory
abbrev pub IsReply : Status → Type 0
IsReply Ok = ⊤
IsReply Usage = ⊤
IsReply Refused = ⊤
IsReply PassFailed = ⊤
IsReply Limit = ⊤
IsReply ReadFault = ⊥
IsReply WriteFault = ⊥
IsReply NoMemory = ⊥

-- these are the bytes that a source has left, where it tells them
abbrev pub IsInput : Option (List ℕ) → List ℕ → Type 0
IsInput None bytes = ⊤
IsInput (Some left) bytes = left ≡ bytes

-- the reply is one to these words and to the input that the source has left
abbrev pub RepliesTo : List (List ℕ) → Option (List ℕ) → Reply → Type 0
RepliesTo words left reply = (bytes : List ℕ) × IsInput left bytes × Out words bytes reply

-- each sink took its whole text
pub record TakesAll (out_old out_new diag_old diag_new : Option (List ℕ)) (reply : Reply) : Type 0 where
  pub to_out : Appends out_old out_new reply.out
  pub to_diag : Appends diag_old diag_new reply.diag

-- a sink took a front part of a text
abbrev pub TakesFront : Option (List ℕ) → Option (List ℕ) → List ℕ → Type 0
TakesFront old new text = (front rest : List ℕ) × (front ++ rest ≡ text) × Appends old new front

-- one sink's count of faults rose, and the other's is as it was
abbrev pub RoseAlone : ℕ → ℕ → ℕ → ℕ → Type 0
RoseAlone before now other_before other_now = Rose before now × (other_now ≡ other_before)

-- the writing stopped at `out`, and `diag` stays; or it stopped at `diag`, and `out` took its whole text
abbrev pub StopsEarly : Type 0 → Type 0 → Option (List ℕ) → Option (List ℕ) → Option (List ℕ) → Option (List ℕ) → Reply → Type 0
StopsEarly at_out at_diag out_old out_new diag_old diag_new reply =
    (at_out × TakesFront out_old out_new reply.out × Keeps diag_old diag_new)
    ⊎ (at_diag × Appends out_old out_new reply.out × TakesFront diag_old diag_new reply.diag)

-- both sinks are as they were
abbrev pub Spares : {K E : Type 0} → K → K → E → E → Type 0
Spares out_old out_new diag_old diag_new = (out_new ≡ out_old) × (diag_new ≡ diag_old)

-- at most one reply fits given words and a given input
abbrev pub OneReply : Type 0
OneReply = (words : List (List ℕ)) (bytes : List ℕ) (one other : Reply) → Out words bytes one → Out words bytes other → one ≡ other
