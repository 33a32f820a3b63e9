-- ---- the plan
mod Families
mod Leaves
mod Climbs
mod Pids
mod Sizes
mod Grown
mod Kept
mod Planned
mod OutdatedPids
mod InUse
mod Standing
mod Logs
mod FreshOrder
mod Untouched
-- ---- levels: the families that change, and a level that has climbed
pub mod LevelParts
pub mod ChangingSeen
pub mod ChangingGroups
pub mod ChangingOutdated
mod ParentRuns
pub mod TermRuns
mod Installed
pub mod InstalledPages
pub mod InstalledLevel
pub mod Climbing
pub mod ClimbingLevel
pub mod ClimbingTop
mod Copying
-- ---- the table: pages that are checked out and put back, pids that are allocated and freed
pub mod Installing
pub mod InstallingLemmas
mod InstallingGroup
mod InstallingParents
pub mod ArrivedPages
pub mod Arrived
pub mod BridgeTables
pub mod BridgeDrawn
mod ChangedRooms
mod Rooted
mod OnlyChild
mod ParentWay
mod Shrinking
-- ---- the code: what it sees and makes is as the plan says
mod RewritingSeen
mod RewritingGroups
mod RewritingFamily
mod RewritingLevel
mod RewritingWalk
mod ChangedNames
mod ChangedPieces
pub mod BridgeSeen
pub mod BridgeGroups
pub mod BridgePieces
pub mod BridgeTermRuns
pub mod BridgeParents
pub mod BridgeNext
pub mod LeveledDrawn
pub mod LeveledCut
pub mod LeveledChange
pub mod LeveledTop
pub mod ThroughGroups
pub mod ThroughLevel
pub mod ThroughTop
pub mod ThroughClimb
pub mod ThroughBack
mod Ready
pub mod QuietLeaf
-- ---- the worked rows
mod Literals
mod LowRows
mod HighRows
