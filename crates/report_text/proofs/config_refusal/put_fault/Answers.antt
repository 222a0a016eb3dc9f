use Rattle.outside.proofs.PutsFacts.{front-stopped, puts-then}
use Rattle.report_text.specs.ConfigRefusal.{fault_head, place_text}
use Rattle.report_text.proofs.config_refusal.put_fault.Goals as goal

pub returns-in_err-put_parts : goal.returns-in_err-put_parts
returns-in_err-put_parts g c = front-stopped _ _ (fault_head c.args.fault.now) (place_text c.args.at.table c.args.at.entry c.args.at.key) _ c.from_residual.ensures.0 c.in_err-put_parts.ensures

pub returns : goal.returns
returns g c = puts-then _ _ _ (fault_head c.args.fault.now) (place_text c.args.at.table c.args.at.entry c.args.at.key) c.put_place.result c.in_ok-put_parts.ensures c.put_place.ensures
