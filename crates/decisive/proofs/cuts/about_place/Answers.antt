use Rattle.std.proofs.Common.{◌∙◌, rules}
use Rattle.std.proofs.lemmas.List.Sorted.{IsPartitionPoint-from_clause}
use Rattle.channel_path.specs.declared.moves.Move.{Move}
use Rattle.decisive.specs.Cuts.{stands_before}
use Rattle.decisive.proofs.Slicing.{cut_back, cut_front, cut_parted, cut_point}
use Rattle.decisive.proofs.cuts.about_place.Goals as goal

pub returns : goal.returns
returns c xs ys cut =
    let p = λ (m : Move). stands_before c.args.place c.args.tenth m in
    let ms = c.args.moves.now in
    let i = c.partition_point.result in
    let at = IsPartitionPoint-from_clause p ms i c.partition_point.ensures.partitioned (cut_parted p ms xs ys cut) (λ a r q k. search rules) in
    let e = cut_point p ms xs ys i cut c.partition_point.ensures.bound at in
    (c.split_at.ensures.front ∙ cut_front p ms xs ys i cut e, c.split_at.ensures.back ∙ cut_back p ms xs ys i cut e)
