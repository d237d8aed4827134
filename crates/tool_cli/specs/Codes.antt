-- The exit status of each way to end.
use Rattle.std.specs.Prelude.{ℕ}
use Rattle.tool_cli.specs.declared.status.Status.{Status}
use Rattle.tool_cli.specs.declared.status.Status.TheVariants.{Ok, Usage, Refused, PassFailed, ReadFault, WriteFault, NoMemory, Limit}

abbrev pub code_of : Status → ℕ
code_of Ok = 0
code_of Usage = 1
code_of Refused = 2
code_of PassFailed = 3
code_of ReadFault = 4
code_of WriteFault = 5
code_of NoMemory = 6
code_of Limit = 7
