use Rattle.std.proofs.Common.{◌≡◌, rules}
use Rattle.can_frame.specs.Names.{place_of}
use Rattle.can_frame.proofs.Naming.{found-place_of, missing-place_of}
use Rattle.can_frame.proofs.names.Names.find_bytes.Goals as goal

pub returns-in_err-place-clause-missing : goal.returns-in_err-place-clause-missing
returns-in_err-place-clause-missing c =
    let place : c.from_residual.result ≡ place_of c.args.self.now c.args.name.now = search rules in
    missing-place_of c.args.self.now c.args.name.now c.from_residual.result place

pub returns-clause-found : goal.returns-clause-found
returns-clause-found c =
    let place : c.new.result ≡ place_of c.args.self.now c.args.name.now = search rules in
    found-place_of c.args.self.now c.args.name.now c.new.result place

pub returns-clause-missing : goal.returns-clause-missing
returns-clause-missing c =
    let place : c.new.result ≡ place_of c.args.self.now c.args.name.now = search rules in
    missing-place_of c.args.self.now c.args.name.now c.new.result place
