mod Entry
