use Rattle.std.proofs.Common.{◌∙◌, rules}
use Rattle.std.proofs.lemmas.List.Sorted.{IsPartitionPoint-from_clause}
use Rattle.channel_path.specs.declared.moves.Move.{Move}
use Rattle.decisive.specs.Cuts.{begins_before}
use Rattle.decisive.proofs.Slicing.{cut_back, cut_parted, cut_point}
use Rattle.decisive.proofs.cuts.moves_from.Goals as goal

pub returns : goal.returns
returns c xs ys cut =
    let p = λ (m : Move). begins_before c.args.tenth m in
    let ms = c.args.moves.now in
    let i = c.partition_point.result in
    let at = IsPartitionPoint-from_clause p ms i c.partition_point.ensures.partitioned (cut_parted p ms xs ys cut) (λ a r q k. search rules) in
    c.split_at.ensures.back ∙ cut_back p ms xs ys i cut (cut_point p ms xs ys i cut c.partition_point.ensures.bound at)
