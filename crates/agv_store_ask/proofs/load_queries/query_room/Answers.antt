use Rattle.std.proofs.Common.{None, Some, Ok, sym, ◌∙◌}
use Rattle.agv_store_read.proofs.Asking.{follows, passes, then_follows, then_passes}
use Rattle.agv_store_ask.proofs.LoadAnswers.{room_none, room_some}
use Rattle.agv_store_ask.proofs.load_queries.query_room.Goals as goal

pub returns-in_err-room : goal.returns-in_err-room
returns-in_err-room g c = passes g.S.Store c.args.conn.now c.query_room_left.new.conn c.in_err-room.field-0.0 _ _ c.from_residual.result c.from_residual.ensures.1 c.in_err-room.ensures

pub returns-in-Some : goal.returns-in-Some
returns-in-Some g c =
    follows g.S.Store c.args.conn.now c.query_room_left.new.conn c.in_ok-room.room _ _ (Ok (Some c.in_ok-room.room))
    (λ world lawful is agrees. room_some world c.args.station.now c.in-Some.site c.in_ok-room.room (c.in-Some.ensures.agrees world agrees) is) c.in_ok-room.ensures

pub returns-in_err-site : goal.returns-in_err-site
returns-in_err-site g c = passes g.S.Store c.args.conn.now c.query_station.new.conn c.in_err-site.field-0.0 _ _ c.from_residual-in_err-site.result c.from_residual-in_err-site.ensures.1 c.in_err-site.ensures

pub returns-in-None : goal.returns-in-None
returns-in-None g c =
    follows g.S.Store c.args.conn.now c.query_station.new.conn c.in_ok-site.site _ _ (Ok None) (λ world lawful one _. room_none world c.args.station.now (sym one ∙ c.in-None.is)) c.in_ok-site.ensures

pub returns-in_err-room-in-Some-site : goal.returns-in_err-room-in-Some-site
returns-in_err-room-in-Some-site g c =
    then_passes g.S.Store c.args.conn.now c.query_station.new.conn c.query_room_left-in-Some-site.new.conn c.in_ok-site.site _ c.in_ok-site.ensures
    c.in_err-room-in-Some-site.field-0.0 _ _ c.from_residual-in_err-room-in-Some-site.result c.from_residual-in_err-room-in-Some-site.ensures.1 c.in_err-room-in-Some-site.ensures

pub returns-in_ok-room-in-Some-site : goal.returns-in_ok-room-in-Some-site
returns-in_ok-room-in-Some-site g c =
    then_follows g.S.Store c.args.conn.now c.query_station.new.conn c.query_room_left-in-Some-site.new.conn c.in_ok-site.site _ c.in_ok-site.ensures
    c.in_ok-room-in-Some-site.room _ _ (Ok (Some c.in_ok-room-in-Some-site.room)) (λ world lawful one two _. room_some world c.args.station.now c.in-Some-site.site c.in_ok-room-in-Some-site.room (sym one ∙ c.in-Some-site.is) two) c.in_ok-room-in-Some-site.ensures
