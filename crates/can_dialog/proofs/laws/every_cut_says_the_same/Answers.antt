use Rattle.std.proofs.Common.{◌≡◌, List, [], sym, subst, flat_map}
use Rattle.can_proto.specs.declared.message.Incoming.{Incoming}
use Rattle.can_proto.specs.Messages.{given_from, messages_of}
use Rattle.can_dialog.specs.Sessions.{Turns}
use Rattle.can_dialog.proofs.Cuts.{of_pieces, in_pieces}
use Rattle.can_dialog.proofs.laws.every_cut_says_the_same.Goals as goal

pub returns : goal.returns
returns g c = λ moment before after pieces p q text.
    let same : given_from [] pieces ≡ messages_of (flat_map (λ piece. piece) pieces) = c.every_cut_gives_the_same_messages.ensures pieces in (
      λ h. (let t = of_pieces g.P.Port.step moment before [] pieces p q text after h in
          (t.0, subst (λ (items : List Incoming). Turns g.P.Port.step moment before t.0 items p q text after) same t.1)),
      λ h. in_pieces g.P.Port.step moment before h.0 [] pieces p q text after (subst (λ (items : List Incoming). Turns g.P.Port.step moment before h.0 items p q text after) (sym same) h.1),
    )
