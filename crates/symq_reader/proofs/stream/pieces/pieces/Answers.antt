use Rattle.std.proofs.Common.{◌<◌, length, rules}
use Rattle.symq_reader.specs.inner.Pieces.{IsPieceCut, ReadsPiece}
use Rattle.symq_reader.proofs.Pieces.{no_pieces, more_pieces, cut_shorter}
use Rattle.symq_reader.proofs.stream.pieces.pieces.Goals as goal

pub pieces-init : goal.pieces-init
pieces-init c = no_pieces c.args.list.now c.args.found.now.items

pub pieces-smaller : goal.pieces-smaller
pieces-smaller c =
    let cut : IsPieceCut c.pieces.rest.now c.in-Some.front.now c.in-Some.tail.now = search rules in
    let less : length c.in-Some.tail.now < length c.pieces.rest.now = cut_shorter c.pieces.rest.now c.in-Some.front.now c.in-Some.tail.now cut in
    less

pub pieces-preserved : goal.pieces-preserved
pieces-preserved c =
    let cut : IsPieceCut c.pieces.rest.now c.in-Some.front.now c.in-Some.tail.now = search rules in
    let reads : ReadsPiece c.in-Some.front.now c.pieces.found.items c.piece.new.found.items = search rules in
    more_pieces c.args.list.now c.pieces.rest.now c.in-Some.front.now c.in-Some.tail.now c.args.found.now.items c.pieces.found.items c.piece.new.found.items
    c.pieces.invariant cut reads
