use Rattle.std.proofs.Common.{refl}
use Rattle.policy.specs.Policies.{entries_of}
use Rattle.policy.proofs.Places.{closed_is_free, anchored_is}
use Rattle.policy.proofs.Tables.{stands_whole}
use Rattle.policy.proofs.Whole.{written, same_formula}
use Rattle.policy.proofs.policy.Policy.table.Goals as goal

pub returns : goal.returns
returns c =
    let p = c.args.self.now in
    let w = written (entries_of p) p.whole in
    record {
      value = refl;
      known = (w.0, w.1, w.2, stands_whole w.0 (entries_of p) w.1, λ g e. same_formula (entries_of p) g w.0 e w.1);
      closed = closed_is_free;
      anchored = anchored_is;
    }
