use Rattle.std.specs.Prelude.{List, [], ◌++◌}
use Rattle.can_event.specs.declared.entry.Entry.{Entry}
use Rattle.can_server.specs.declared.given.Chain.{Chain, Empty, Block'}

-- The entries given to a keeper, which only contracts see (own choice).

-- the entries in a chain of blocks, oldest first
abbrev pub entries_of_chain : Chain → List Entry
entries_of_chain Empty = []
entries_of_chain (Block' shape before block) = entries_of_chain before ++ block.value.entries
