use Rattle.std.proofs.Common.{rules}
use Rattle.can_server.proofs.conversation.Conversation.carry_out.Goals as goal

pub returns-clause-hears : goal.returns-clause-hears
returns-clause-hears g c = λ _. (c.hear-fed.new.self.text.items, search rules, search rules)
