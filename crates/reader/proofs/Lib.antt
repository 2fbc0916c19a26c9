mod Tests
mod Flags
mod WalkLoops
mod Order
