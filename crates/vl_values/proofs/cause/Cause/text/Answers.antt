-- Each text is the one that its parts spell.
use Rattle.vl_values.proofs.cause.Cause.text.Goals as goal

pub returns-in-Duplicate : goal.returns-in-Duplicate
returns-in-Duplicate c = rw c.in-Duplicate.is (simp (c.as_slice-in-Duplicate.ensures, c.as_slice-in-Duplicate-2.ensures, c.as_slice-in-Duplicate-3.ensures, c.as_slice-in-Duplicate-4.ensures) at c.joined-in-Duplicate.ensures)

pub returns-in-LostSession : goal.returns-in-LostSession
returns-in-LostSession c = rw c.in-LostSession.is (simp (c.as_slice-in-LostSession.ensures, c.name.ensures) at c.joined-in-LostSession.ensures)

pub returns-in-LostRead : goal.returns-in-LostRead
returns-in-LostRead c = rw c.in-LostRead.is (simp (c.as_slice-in-LostRead.ensures) at c.joined-in-LostRead.ensures)

pub returns-in-CommitLost : goal.returns-in-CommitLost
returns-in-CommitLost c = rw c.in-CommitLost.is (simp (c.name-in-CommitLost.ensures, c.from.ensures, c.from-in-CommitLost.ensures, c.as_slice-in-CommitLost.ensures) at c.joined-in-CommitLost.ensures)

pub returns-in-CommitDevice : goal.returns-in-CommitDevice
returns-in-CommitDevice c = rw c.in-CommitDevice.is (simp (c.name-in-CommitDevice.ensures, c.from-in-CommitDevice.ensures, c.from-in-CommitDevice-2.ensures, c.as_slice-in-CommitDevice.ensures) at c.joined-in-CommitDevice.ensures)

pub returns-in-RowCount : goal.returns-in-RowCount
returns-in-RowCount c = rw c.in-RowCount.is c.joined-in-RowCount.ensures

pub returns-in-PacketTooLarge : goal.returns-in-PacketTooLarge
returns-in-PacketTooLarge c = rw c.in-PacketTooLarge.is c.joined-in-PacketTooLarge.ensures

pub returns-in-PacketOrder : goal.returns-in-PacketOrder
returns-in-PacketOrder c = rw c.in-PacketOrder.is (simp (c.from-in-PacketOrder.ensures, c.from-in-PacketOrder-2.ensures) at c.joined-in-PacketOrder.ensures)

pub returns-in-LockWait : goal.returns-in-LockWait
returns-in-LockWait c = rw c.in-LockWait.is (simp (c.from-in-LockWait.ensures, c.as_slice-in-LockWait.ensures, c.as_slice-in-LockWait-2.ensures, c.from-in-LockWait-2.ensures) at c.joined-in-LockWait.ensures)

pub returns-in-RemovedAndClaimed : goal.returns-in-RemovedAndClaimed
returns-in-RemovedAndClaimed c = rw c.in-RemovedAndClaimed.is (simp (c.as_slice-in-RemovedAndClaimed.ensures, c.as_slice-in-RemovedAndClaimed-2.ensures) at c.joined-in-RemovedAndClaimed.ensures)

pub returns-in-ClaimedAndRemoved : goal.returns-in-ClaimedAndRemoved
returns-in-ClaimedAndRemoved c = rw c.in-ClaimedAndRemoved.is (simp (c.as_slice-in-ClaimedAndRemoved.ensures, c.as_slice-in-ClaimedAndRemoved-2.ensures) at c.joined-in-ClaimedAndRemoved.ensures)

pub returns-in-OutOfRange : goal.returns-in-OutOfRange
returns-in-OutOfRange c = rw c.in-OutOfRange.is (simp (c.as_slice-in-OutOfRange.ensures) at c.joined-in-OutOfRange.ensures)

pub returns-in-NotNumber : goal.returns-in-NotNumber
returns-in-NotNumber c = rw c.in-NotNumber.is (simp (c.as_slice-in-NotNumber.ensures) at c.joined-in-NotNumber.ensures)

pub returns-in-TooLong : goal.returns-in-TooLong
returns-in-TooLong c = rw c.in-TooLong.is (simp (c.as_slice-in-TooLong.ensures, c.from-in-TooLong.ensures) at c.joined-in-TooLong.ensures)
