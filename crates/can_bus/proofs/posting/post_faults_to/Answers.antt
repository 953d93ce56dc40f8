use Rattle.std.proofs.Common.{◌≡◌, ℕ, [], Bool, true, false, if◌then◌else◌, refl, ap, sym, ◌∙◌, arith}
use Rattle.can_frame.specs.Sets.{is_in}
use Rattle.can_event.specs.declared.attempt.Tried.{Tried}
use Rattle.can_bus.specs.Attempted.{transmission_of}
use Rattle.can_bus.specs.Posts.{error_posts, fault_message_for, role_at}
use Rattle.can_bus.specs.State.{SocketState, filled}
use Rattle.can_bus.proofs.Filling.{wanted, filled-nil, filled-dropped, faults_told}
use Rattle.can_bus.proofs.Lawful.{error_posts-le}
use Rattle.can_bus.proofs.posting.post_faults_to.Goals as goal
use Rattle.can_bus.proofs.posting.post_faults_to.Goals.{then-contains, else-contains}

pub post_error-requires-2 : goal.post_error-requires-2
post_error-requires-2 g c =
    let v = c.args.socket.now in
    elim c.if-contains.branch [
      | then-contains w ↦ omega (arith, c.requires, ap (λ (u : SocketState). u.dropped) w.socket-is, filled-dropped v w.post_error.new.socket (error_posts v.iface c.tried.result.now.moment w.fault_at.result) w.post_error.ensures, error_posts-le v.iface c.tried.result.now.moment w.fault_at.result)
      | else-contains w ↦ omega (arith, c.requires, ap (λ (u : SocketState). u.dropped) w.socket-is)
    ]

pub returns : goal.returns
returns g c =
    let o = c.args.attempted.now in
    let v = c.args.socket.now in
    let m : c.tried.result.now.moment ≡ o.tried.moment = ap (λ (u : Tried). u.moment) c.tried.ensures in
    let last : c.post_error-2.new.socket ≡ filled c.if-contains.socket (wanted c.if-contains.socket (error_posts c.if-contains.socket.iface o.tried.moment c.state_change_at.result)) =
    c.post_error-2.ensures ∙ ap (λ (k : ℕ). filled c.if-contains.socket (wanted c.if-contains.socket (error_posts c.if-contains.socket.iface k c.state_change_at.result))) m in
    elim c.if-contains.branch [
      | then-contains w ↦
          let within : is_in c.iface-iface.result c.args.reporting ≡ true = sym c.contains.ensures ∙ w.if-contains.true in
          faults_told o c.args.reporting v c.if-contains.socket c.post_error-2.new.socket c.iface-iface.result w.fault_at.result c.state_change_at.result c.iface-iface.ensures
          (w.socket-is ∙ w.post_error.ensures ∙ ap (λ (k : ℕ). filled v (wanted v (error_posts v.iface k w.fault_at.result))) m ∙ ap (λ (b : Bool). filled v (wanted v (if b then error_posts v.iface o.tried.moment w.fault_at.result else []))) (sym within))
          w.fault_at.ensures last c.state_change_at.ensures
      | else-contains w ↦
          let without : is_in c.iface-iface.result c.args.reporting ≡ false = sym c.contains.ensures ∙ w.if-contains.false in
          let fault = fault_message_for o.tried.class o.verdict (role_at (transmission_of o) c.iface-iface.result) in
          faults_told o c.args.reporting v c.if-contains.socket c.post_error-2.new.socket c.iface-iface.result fault c.state_change_at.result c.iface-iface.ensures
          (w.socket-is ∙ sym (filled-nil v) ∙ ap (λ (b : Bool). filled v (wanted v (if b then error_posts v.iface o.tried.moment fault else []))) (sym without))
          refl last c.state_change_at.ensures
    ]
