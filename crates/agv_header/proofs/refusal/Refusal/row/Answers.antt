use Rattle.agv_header.proofs.refusal.Refusal.row.Goals as goal

pub returns-in-BadHead : goal.returns-in-BadHead
returns-in-BadHead c = rw c.in-BadHead.is

pub returns-in-NoLength : goal.returns-in-NoLength
returns-in-NoLength c = rw c.in-NoLength.is

pub returns-in-TooLarge : goal.returns-in-TooLarge
returns-in-TooLarge c = rw c.in-TooLarge.is

pub returns-in-Coding : goal.returns-in-Coding
returns-in-Coding c = rw c.in-Coding.is

pub returns-in-NoPath : goal.returns-in-NoPath
returns-in-NoPath c = rw c.in-NoPath.is

pub returns-in-BadMethod : goal.returns-in-BadMethod
returns-in-BadMethod c = rw c.in-BadMethod.is

pub returns-in-BadJson : goal.returns-in-BadJson
returns-in-BadJson c = rw c.in-BadJson.is

pub returns-in-Fraction : goal.returns-in-Fraction
returns-in-Fraction c = rw c.in-Fraction.is

pub returns-in-Position : goal.returns-in-Position
returns-in-Position c = rw c.in-Position.is

pub returns-in-BadBody : goal.returns-in-BadBody
returns-in-BadBody c = rw c.in-BadBody.is

pub returns-in-BadCsv : goal.returns-in-BadCsv
returns-in-BadCsv c = rw c.in-BadCsv.is

pub returns-in-Version : goal.returns-in-Version
returns-in-Version c = rw c.in-Version.is

pub returns-in-BadTimestamp : goal.returns-in-BadTimestamp
returns-in-BadTimestamp c = rw c.in-BadTimestamp.is

pub returns-in-WrongVehicle : goal.returns-in-WrongVehicle
returns-in-WrongVehicle c = rw c.in-WrongVehicle.is

pub returns-in-NoVehicle : goal.returns-in-NoVehicle
returns-in-NoVehicle c = rw c.in-NoVehicle.is

pub returns-in-NoNode : goal.returns-in-NoNode
returns-in-NoNode c = rw c.in-NoNode.is

pub returns-in-NoStation : goal.returns-in-NoStation
returns-in-NoStation c = rw c.in-NoStation.is

pub returns-in-NoLoad : goal.returns-in-NoLoad
returns-in-NoLoad c = rw c.in-NoLoad.is

pub returns-in-NoJob : goal.returns-in-NoJob
returns-in-NoJob c = rw c.in-NoJob.is

pub returns-in-NoOrder : goal.returns-in-NoOrder
returns-in-NoOrder c = rw c.in-NoOrder.is

pub returns-in-Exists : goal.returns-in-Exists
returns-in-Exists c = rw c.in-Exists.is

pub returns-in-LayoutSet : goal.returns-in-LayoutSet
returns-in-LayoutSet c = rw c.in-LayoutSet.is

pub returns-in-LayoutBad : goal.returns-in-LayoutBad
returns-in-LayoutBad c = rw c.in-LayoutBad.is

pub returns-in-Held : goal.returns-in-Held
returns-in-Held c = rw c.in-Held.is

pub returns-in-Full : goal.returns-in-Full
returns-in-Full c = rw c.in-Full.is

pub returns-in-InJob : goal.returns-in-InJob
returns-in-InJob c = rw c.in-InJob.is

pub returns-in-Elsewhere : goal.returns-in-Elsewhere
returns-in-Elsewhere c = rw c.in-Elsewhere.is

pub returns-in-SameStation : goal.returns-in-SameStation
returns-in-SameStation c = rw c.in-SameStation.is

pub returns-in-Busy : goal.returns-in-Busy
returns-in-Busy c = rw c.in-Busy.is

pub returns-in-Astray : goal.returns-in-Astray
returns-in-Astray c = rw c.in-Astray.is

pub returns-in-Loaded : goal.returns-in-Loaded
returns-in-Loaded c = rw c.in-Loaded.is

pub returns-in-NotReady : goal.returns-in-NotReady
returns-in-NotReady c = rw c.in-NotReady.is

pub returns-in-InstantPending : goal.returns-in-InstantPending
returns-in-InstantPending c = rw c.in-InstantPending.is

pub returns-in-NotConfirmed : goal.returns-in-NotConfirmed
returns-in-NotConfirmed c = rw c.in-NotConfirmed.is

pub returns-in-WrongUpdate : goal.returns-in-WrongUpdate
returns-in-WrongUpdate c = rw c.in-WrongUpdate.is

pub returns-in-Beyond : goal.returns-in-Beyond
returns-in-Beyond c = rw c.in-Beyond.is

pub returns-in-NoWalk : goal.returns-in-NoWalk
returns-in-NoWalk c = rw c.in-NoWalk.is

pub returns-in-TooLong : goal.returns-in-TooLong
returns-in-TooLong c = rw c.in-TooLong.is

pub returns-in-Spent : goal.returns-in-Spent
returns-in-Spent c = rw c.in-Spent.is

pub returns-in-RefUsed : goal.returns-in-RefUsed
returns-in-RefUsed c = rw c.in-RefUsed.is

pub returns-in-JobState : goal.returns-in-JobState
returns-in-JobState c = rw c.in-JobState.is

pub returns-in-Limit : goal.returns-in-Limit
returns-in-Limit c = rw c.in-Limit.is

pub returns-in-OrderKnown : goal.returns-in-OrderKnown
returns-in-OrderKnown c = rw c.in-OrderKnown.is

pub returns-in-BadStops : goal.returns-in-BadStops
returns-in-BadStops c = rw c.in-BadStops.is

pub returns-in-OtherOrder : goal.returns-in-OtherOrder
returns-in-OtherOrder c = rw c.in-OtherOrder.is

pub returns-in-UpdateNotSent : goal.returns-in-UpdateNotSent
returns-in-UpdateNotSent c = rw c.in-UpdateNotSent.is

pub returns-in-UpdateBackwards : goal.returns-in-UpdateBackwards
returns-in-UpdateBackwards c = rw c.in-UpdateBackwards.is

pub returns-in-NotOurNode : goal.returns-in-NotOurNode
returns-in-NotOurNode c = rw c.in-NotOurNode.is

pub returns-in-Backwards : goal.returns-in-Backwards
returns-in-Backwards c = rw c.in-Backwards.is

pub returns-in-BeyondBase : goal.returns-in-BeyondBase
returns-in-BeyondBase c = rw c.in-BeyondBase.is

pub returns-in-ActionTwice : goal.returns-in-ActionTwice
returns-in-ActionTwice c = rw c.in-ActionTwice.is

pub returns-in-ActionBackwards : goal.returns-in-ActionBackwards
returns-in-ActionBackwards c = rw c.in-ActionBackwards.is

pub returns-in-ActionEarly : goal.returns-in-ActionEarly
returns-in-ActionEarly c = rw c.in-ActionEarly.is

pub returns-in-DropFirst : goal.returns-in-DropFirst
returns-in-DropFirst c = rw c.in-DropFirst.is

pub returns-in-CancelEarly : goal.returns-in-CancelEarly
returns-in-CancelEarly c = rw c.in-CancelEarly.is

pub returns-in-NotThere : goal.returns-in-NotThere
returns-in-NotThere c = rw c.in-NotThere.is

pub returns-in-CountTwice : goal.returns-in-CountTwice
returns-in-CountTwice c = rw c.in-CountTwice.is

pub returns-in-OnVehicle : goal.returns-in-OnVehicle
returns-in-OnVehicle c = rw c.in-OnVehicle.is

pub returns-in-Memory : goal.returns-in-Memory
returns-in-Memory c = rw c.in-Memory.is

pub returns-in-Storage : goal.returns-in-Storage
returns-in-Storage c = rw c.in-Storage.is
